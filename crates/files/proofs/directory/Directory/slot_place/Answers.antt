-- `slot_place` meets its contract.
-- Rests on: the laws in Loading/Slots and laws::Found; the contracts of BlockRow::get and byte_place.
-- Assumes nothing.
use Rattle.std.proofs.Common.{◌∙◌, ℕ, Option, ◌*◌, ◌%◌, sym, ap, arith}
use Rattle.laws.specs.Laws.Found.{below_told}
use Rattle.file_rules.specs.Sizes.{slot_bytes, block_slots}
use Rattle.files.specs.Laws.Loading.Slots.{slot_place, place_in}
use Rattle.files.proofs.directory.Directory.slot_place.Goals as goal

pub byte_place-requires : goal.byte_place-requires
byte_place-requires c =
    let there = below_told _ _ _ (sym (c.get.ensures ∙ c.args.self.now.located.parts _ (omega arith)) ∙ c.in-Some.is) in
    (there.1, omega arith)

pub returns-in-Some : goal.returns-in-Some
unfolding slot_place place_in
returns-in-Some c = (
  c.byte_place.ensures.0
      ∙ sym (ap (λ (b : Option ℕ). place_in b (c.args.k % block_slots * slot_bytes)) (sym c.get.ensures ∙ c.in-Some.is)),
  omega arith,
)

pub returns-in-None : goal.returns-in-None
unfolding slot_place place_in
returns-in-None c = (
  sym (ap (λ (b : Option ℕ). place_in b (c.args.k % block_slots * slot_bytes)) (sym c.get.ensures ∙ c.in-None.is)),
  omega arith,
)
