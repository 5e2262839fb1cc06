-- How bytes are put into a buffer one after the other. Only the functions inside the crate speak of it.
use Rattle.std.specs.Prelude.{ℕ, ◌+◌, ◌≤◌, ◌≡◌, List, length}
use Rattle.std.proofs.lemmas.List.Edits.{sets}

-- the buffer with the text's bytes stored from a place on
unfoldable pub stored : List ℕ → ℕ → List ℕ → List ℕ
stored buffer at text = sets buffer at text

-- room for any line: at most twenty digits, and its end
abbrev pub line_room : ℕ
line_room = 21

-- the text is stored at a place inside the buffer, nothing else is changed, and `next` is the place after it
pub record Put (before : List ℕ) (at : ℕ) (text after : List ℕ) (next : ℕ) : Type 0 where
  pub cells : after ≡ stored before at text
  pub ends : next ≡ at + length text
  pub inside : next ≤ length before
