-- `table_byte` meets its contract.
-- Rests on: the laws in Packing/Items and sector_rules::Base/Packed.
-- Assumes nothing.
use mathlib.Core.Path.{◌≡◌, refl, sym}
use mathlib.Core.List.{[], ◌∷◌}
use Prim.Native.Nat.{ℕ, zero, suc, ◌+◌, ◌*◌, ◌/◌, ◌%◌, ◌<◌}
use lib.ListN.{get_or}
use native.Mathlib.Omega.{arith}
use Rattle.sector_rules.specs.Packed.{hfe_table_byte}
use Rattle.sector_rules.proofs.Laws.Base.Packed.{table_0, table_1, table_2, table_3}
use Rattle.sectors.specs.Laws.Packing.Items.{table_past}
use Rattle.sectors.proofs.packing.table_byte.Goals as goal

entry_byte : (j r : ℕ) → j % 4 ≡ r → j < 320 → get_or ((2 + 49 * (j / 4)) % 256 ∷ ((2 + 49 * (j / 4)) / 256 % 256 ∷ (168 ∷ (97 ∷ [])))) r 0 ≡ hfe_table_byte j
entry_byte j zero e l = sym (table_0 j l e)
entry_byte j (suc zero) e l = sym (table_1 j l e)
entry_byte j (suc (suc zero)) e l = sym (table_2 j l e)
entry_byte j (suc (suc (suc zero))) e l = sym (table_3 j l e)
entry_byte j (suc (suc (suc (suc r)))) e l = absurd (omega arith)

pub returns-then-j : goal.returns-then-j
returns-then-j c = rw (c.to_le_bytes.ensures, c.to_le_bytes-then-j.ensures) (entry_byte c.args.j (c.args.j % 4) refl c.if-j.true)

pub returns : goal.returns
returns c = sym (table_past _ c.if-j.false)
