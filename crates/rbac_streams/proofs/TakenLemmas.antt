-- Pieces that a writer takes one after another are one piece.
use Rattle.std.proofs.Common.{Result, Ok, Err, OnOk, OnErr, ◌≡◌, ◌∙◌, ℕ, ◌+◌, ◌-◌, ◌<◌, ◌≤◌, List, [], ◌++◌, length, take, drop, Option, ap, ap₂, sym, refl, subst, arith, length-append, append_assoc, append-nil}
use Rattle.std.proofs.lemmas.List.{take-append-drop, drop-take, take-take, length-take-le, take_rest}
use Rattle.std.specs.Io.KnownBytes.{Keeps}
use Rattle.std.proofs.KnownBytes.{Appends-nil, Appends-trans, Appends-kept, Keeps-refl}
use Rattle.rbac_streams.specs.Streams.{SinkView, PageView}
use Rattle.rbac_streams.specs.Taken.{Took, Printed, Prints, Stopped, StopsIn, counted}
use Rattle.rbac_streams.specs.declared.page.PrintFault.{PrintFault}

pub counted_none : (n : ℕ) → n ≡ counted n 0
counted_none n = omega arith

pub counted_more : (n a b : ℕ) → counted (counted n a) b ≡ counted n (a + b)
counted_more n a b = omega arith

module _ {W : Type 0} (contents : W → Option (List ℕ)) where
  pub Took-nothing : (s t : SinkView W) → t.taken ≡ s.taken → Keeps (contents s.writer) (contents t.writer) → Took contents s t []
  Took-nothing s t e k = record {
    appends = Appends-kept _ _ _ [] (Appends-nil (contents s.writer)) k;
    count = e ∙ counted_none s.taken;
  }

  pub Took-more : (s t u : SinkView W) (bs cs : List ℕ) → Took contents s t bs → Took contents t u cs → Took contents s u (bs ++ cs)
  Took-more s t u bs cs p q = record {
    appends = Appends-trans _ _ _ bs cs p.appends q.appends;
    count = q.count ∙ ap (λ n. counted n (length cs)) p.count ∙ counted_more s.taken (length bs) (length cs)
        ∙ ap (counted s.taken) (sym (length-append bs cs));
  }

pub take_add : (s : List ℕ) (a n : ℕ) → take (a + n) s ≡ take a s ++ take n (drop a s)
take_add s a n =
    sym (take-append-drop a (take (a + n) s)) ∙ ap₂ (λ x y. x ++ y) (take-take a (a + n) s (omega arith)) (drop-take a n s)

-- what one more read gave, where it passes the most
pub read_past : (most n : ℕ) (seen room : List ℕ) → most - length seen < n → n ≤ length room → most < length (seen ++ take n room)
read_past most n seen room h k = rw (length-append, length-take-le n room k) (omega arith)

-- how much there is with one more read
pub read_upto : (n bound : ℕ) (seen room : List ℕ) → length seen + n ≤ bound → n ≤ length room → length (seen ++ take n room) ≤ bound
read_upto n bound seen room h k = rw (length-append, length-take-le n room k) h

-- how many reads there were with one more
pub reads_upto : (start n m len : ℕ) → m ≡ counted n 1 → n ≤ start + len → len ≤ 67108864 → m ≤ start + (67108864 + 1)
reads_upto start n m len e h k = omega (arith, e, h, k)

-- the piece is a range up to the end
pub take_add_rest : (s : List ℕ) (a n : ℕ) → take (a + n) s ≡ take a s ++ take n (take (length s - a) (drop a s))
take_add_rest s a n = take_add s a n ∙ ap (λ (l : List ℕ). take a s ++ take n l) (sym (take_rest s a))

module _ {W : Type 0} (contents : W → Option (List ℕ)) where
  pub flushed : (start old new : SinkView W) (page after : PageView) (text : List ℕ) → Printed contents start old page text
      → Took contents old new page.pending → after.pending ≡ []
      → after.written ≡ counted page.written (length page.pending) → Printed contents start new after text
  flushed start old new page after text p t none more = record {
    prefix = p.prefix ++ page.pending;
    took = Took-more contents start old new p.prefix page.pending p.took t;
    whole = p.whole ∙ sym (append-nil (p.prefix ++ page.pending)) ∙ ap (λ (l : List ℕ). (p.prefix ++ page.pending) ++ l) (sym none);
    written = more ∙ ap (λ n. counted n (length page.pending)) p.written
        ∙ counted_more 0 (length p.prefix) (length page.pending)
        ∙ ap (counted 0) (sym (length-append p.prefix page.pending));
  }

  pub stopped : (start old new : SinkView W) (page after : PageView) (text : List ℕ) (n : ℕ) → Printed contents start old page text
      → n ≤ length page.pending → Took contents old new (take n page.pending)
      → after.written ≡ counted page.written n → Stopped contents start new after text
  stopped start old new page after text n p k t more = record {
    prefix = p.prefix ++ take n page.pending;
    rest = drop n page.pending;
    took = Took-more contents start old new p.prefix (take n page.pending) p.took t;
    whole = p.whole ∙ ap (λ (l : List ℕ). p.prefix ++ l) (sym (take-append-drop n page.pending))
        ∙ sym (append_assoc p.prefix (take n page.pending) (drop n page.pending));
    written = more ∙ ap (λ m. counted m n) p.written ∙ counted_more 0 (length p.prefix) n
        ∙ ap (λ m. counted 0 (length p.prefix + m)) (sym (length-take-le n page.pending k))
        ∙ ap (counted 0) (sym (length-append p.prefix (take n page.pending)));
  }

-- ---- texts printed one after another

module _ {W : Type 0} (contents : W → Option (List ℕ)) where
  pub Prints-nil : (s : SinkView W) (p : PageView) → Prints contents s p s p []
  Prints-nil s p = λ start text h. subst (λ (t : List ℕ). Printed contents start s p t) (sym (append-nil text)) h

  pub Prints-trans : (s t u : SinkView W) (p q r : PageView) (bs cs : List ℕ) → Prints contents s p t q bs → Prints contents t q u r cs → Prints contents s p u r (bs ++ cs)
  Prints-trans s t u p q r bs cs f g = λ start text h.
      subst (λ (x : List ℕ). Printed contents start u r x) (append_assoc text bs cs) (g start (text ++ bs) (f start text h))

  pub Stopped-more : (s t : SinkView W) (p : PageView) (bs cs : List ℕ) → Stopped contents s t p bs → Stopped contents s t p (bs ++ cs)
  Stopped-more s t p bs cs h = record {
    prefix = h.prefix;
    rest = h.rest ++ cs;
    took = h.took;
    whole = ap (λ (l : List ℕ). l ++ cs) h.whole ∙ append_assoc h.prefix h.rest cs;
    written = h.written;
  }

  pub Stops-more : (s t : SinkView W) (p q : PageView) (bs cs : List ℕ) → StopsIn contents s p t q bs → StopsIn contents s p t q (bs ++ cs)
  Stops-more s t p q bs cs f = λ start text h.
      subst (λ (x : List ℕ). Stopped contents start t q x) (append_assoc text bs cs) (Stopped-more start t q (text ++ bs) cs (f start text h))

  pub Stops-after : (s t u : SinkView W) (p q r : PageView) (bs cs : List ℕ) → Prints contents s p t q bs → StopsIn contents t q u r cs → StopsIn contents s p u r (bs ++ cs)
  Stops-after s t u p q r bs cs f g = λ start text h.
      subst (λ (x : List ℕ). Stopped contents start u r x) (append_assoc text bs cs) (g start (text ++ bs) (f start text h))

  -- more is pending, and the sink is as it was
  pub Prints-pending : (s : SinkView W) (p q : PageView) (more : List ℕ) → q.pending ≡ p.pending ++ more → q.written ≡ p.written → Prints contents s p s q more
  Prints-pending s p q more e w = λ start text h. record {
    prefix = h.prefix;
    took = h.took;
    whole = ap (λ (l : List ℕ). l ++ more) h.whole ∙ append_assoc h.prefix p.pending more ∙ ap (λ (l : List ℕ). h.prefix ++ l) (sym e);
    written = w ∙ h.written;
  }

  -- nothing more was printed
  pub Stops-unprinted : (s : SinkView W) (p q : PageView) (more : List ℕ) → q.written ≡ p.written → StopsIn contents s p s q more
  Stops-unprinted s p q more w = λ start text h. record {
    prefix = h.prefix;
    rest = p.pending ++ more;
    took = h.took;
    whole = ap (λ (l : List ℕ). l ++ more) h.whole ∙ append_assoc h.prefix p.pending more;
    written = w ∙ h.written;
  }

  -- what was pending was written, or the sink failed
  module _ (s t : SinkView W) (p q r : PageView) (more : List ℕ) (printed : Prints contents s p s q more) where
    pub Prints-flushed : (result : Result Unit PrintFault) → OnOk result ((start : SinkView W) (text : List ℕ) → Printed contents start s q text → Printed contents start t r text)
        → OnOk result (Prints contents s p t r more)
    Prints-flushed (Ok done) flushed = λ start text h. flushed start (text ++ more) (printed start text h)
    Prints-flushed (Err fault) flushed = tt

    pub Stops-flushed : (result : Result Unit PrintFault) → OnErr result ((start : SinkView W) (text : List ℕ) → Printed contents start s q text → Stopped contents start t r text)
        → OnErr result (StopsIn contents s p t r more)
    Stops-flushed (Ok done) stopping = tt
    Stops-flushed (Err fault) stopping = λ start text h. stopping start (text ++ more) (printed start text h)

  -- a page that is empty, at its own sink
  pub Printed-nothing : (s : SinkView W) (p : PageView) → p.pending ≡ [] → p.written ≡ 0 → Printed contents s s p []
  Printed-nothing s p e w = record {
    prefix = [];
    took = Took-nothing contents s s refl (Keeps-refl (contents s.writer));
    whole = sym e;
    written = w;
  }

  -- all was printed, and nothing is pending
  pub Printed-all : (s t : SinkView W) (p : PageView) (text : List ℕ) → Printed contents s t p text → p.pending ≡ [] → Took contents s t text
  Printed-all s t p text h e = subst (λ (x : List ℕ). Took contents s t x)
      (sym (h.whole ∙ ap (λ (l : List ℕ). h.prefix ++ l) e ∙ append-nil h.prefix)) h.took
