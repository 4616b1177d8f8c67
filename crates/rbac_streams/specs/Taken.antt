-- What a writer took in a call, and what was printed on its way to the writer.
use Rattle.std.specs.Prelude.{◌≡◌, ℕ, ◌+◌, ◌-◌, ◌^◌, max, min, List, ◌++◌, length, Option}
use Rattle.std.specs.Io.KnownBytes.{Appends}
use Rattle.rbac_streams.specs.Streams.{SinkView, PageView}

-- a count with more added, which stays at the largest value of `u128`
abbrev pub counted : ℕ → ℕ → ℕ
counted n more = max n (min (n + more) (2 ^ 128 - 1))

-- the writer took exactly these bytes, and the sink counted them
pub record Took {W : Type 0} (contents : W → Option (List ℕ)) (old new : SinkView W)
    (bytes : List ℕ) : Type 0 where
  pub appends : Appends (contents old.writer) (contents new.writer) bytes
  pub count : new.taken ≡ counted old.taken (length bytes)

-- since `start` this text was printed: the sink took a prefix of it, and the page holds the rest
pub record Printed {W : Type 0} (contents : W → Option (List ℕ)) (start now : SinkView W)
    (page : PageView) (text : List ℕ) : Type 0 where
  pub prefix : List ℕ
  pub took : Took contents start now prefix
  pub whole : text ≡ prefix ++ page.pending
  pub written : page.written ≡ counted 0 (length prefix)

-- since `start` the sink took a prefix of the text, and the page counts the bytes of this prefix
pub record Stopped {W : Type 0} (contents : W → Option (List ℕ)) (start now : SinkView W)
    (page : PageView) (text : List ℕ) : Type 0 where
  pub prefix : List ℕ
  pub rest : List ℕ
  pub took : Took contents start now prefix
  pub whole : text ≡ prefix ++ rest
  pub written : page.written ≡ counted 0 (length prefix)

-- more text was printed, which changed the sink from old to new, and page to after
abbrev pub Prints : {W : Type 0} → (W → Option (List ℕ)) → SinkView W → PageView → SinkView W
    → PageView → List ℕ → Type 0
Prints {W} contents old page new after more = (start : SinkView W) (text : List ℕ)
    → Printed contents start old page text → Printed contents start new after (text ++ more)

-- printing more text stopped: the sink took a prefix of the whole text, which begins with what was
-- printed before
abbrev pub StopsIn : {W : Type 0} → (W → Option (List ℕ)) → SinkView W → PageView → SinkView W
    → PageView → List ℕ → Type 0
StopsIn {W} contents old page new after more = (start : SinkView W) (text : List ℕ)
    → Printed contents start old page text → Stopped contents start new after (text ++ more)
