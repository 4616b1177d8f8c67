use Rattle.std.proofs.Common.{inr}
use Rattle.rbac_terms.specs.Matching.{ResourceWordMatches, UrlWordMatches, WordMatches}
use Rattle.rbac_model.proofs.OwnWords.{ResourceWordMatches-own, UrlWordMatches-own, WordMatches-own, any_from}
use Rattle.rbac_model.proofs.laws.words_match_themselves.Goals as goal

pub returns : goal.returns
returns c = record {
  verbs = λ r v has. any_from (λ w. WordMatches w v) r.verbs v has (WordMatches-own v);
  groups = λ r g has. any_from (λ w. WordMatches w g) r.groups g has (WordMatches-own g);
  resources = λ r x has. any_from (λ w. ResourceWordMatches w x) r.resources x has (ResourceWordMatches-own x);
  names = λ r n has. inr has;
  urls = λ r w x has sample. any_from (λ u. UrlWordMatches u x) r.urls w has (UrlWordMatches-own w x sample);
}
