-- What contracts see of a reader, of a writer and of text on its way to a sink.
use Rattle.std.specs.Prelude.{ℕ, Bool, List}

-- the most bytes that an input may have: 64 MiB (own)
abbrev pub most_bytes : ℕ
most_bytes = 67108864

-- the most bytes that one read takes: 64 KiB (own)
abbrev pub one_read : ℕ
one_read = 65536

-- a reader, whether a read of it failed, and how many reads there were
pub record SourceView (R : Type 0) : Type 0 where
  pub reader : R
  pub has_failed : Bool
  pub reads : ℕ

-- a writer, whether a write to it failed, and how many bytes it took
pub record SinkView (W : Type 0) : Type 0 where
  pub writer : W
  pub has_failed : Bool
  pub taken : ℕ

-- the pending text of a page, and how many bytes of the page's text the sink took
pub record PageView : Type 0 where
  pub pending : List ℕ
  pub written : ℕ
