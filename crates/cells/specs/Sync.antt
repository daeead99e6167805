-- Sync bytes, in the cells from a place on (docs/RULES.md, section 3).
-- Assumes nothing: these are definitions.
use Rattle.std.specs.Prelude.{List, Bool, ◌&&◌, ℕ, ◌+◌, leb, eqb, length}
use Rattle.cells.specs.Stream.{word}

-- the cells of a sync mark, first cell highest (§3.5)
abbrev pub sync_word : ℕ
sync_word = 0x4489

-- a sync byte stands at cell k, all of it before the end (§3.7)
unfoldable pub sync_at : List ℕ → ℕ → Bool
sync_at c k = leb (k + 16) (length c) && eqb (word c k) sync_word

-- a run, three sync bytes with nothing between them, at the list's beginning (§3.7)
unfoldable pub three_sync : List ℕ → Bool
three_sync c = sync_at c 0 && sync_at c 16 && sync_at c 32
