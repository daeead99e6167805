-- `give_blocks` meets its contract: the walk has given the free blocks below b, as long as there are not enough; the records from b on are as they were.
-- Rests on: the laws in Loading/Loaded, Writing/Steps, Writing/Given, Writing/InStep and laws::Tests; the
-- contracts of loaded_record, is_free and give_block.
-- Assumes nothing.
use mathlib.Core.Path.{◌≡◌, refl, sym, ap, ◌∙◌}
use Rattle.sector_rules.specs.Geometry.{blocks}
use Rattle.file_rules.specs.Map.{is_free}
use Rattle.files.specs.Laws.Loading.Loaded.{record_loaded}
use Rattle.files.specs.Laws.Writing.Given.{walked_none, walked_held, walked_full, walked_given}
use Rattle.files.specs.Laws.Writing.InStep.{not_first, rest_more}
use native.Mathlib.Omega.{arith}
use Rattle.files.proofs.open.OpenDisk.give_blocks.Goals as goal
use Rattle.files.proofs.open.OpenDisk.give_blocks.Goals.{then-given-n+then-is_free, else-given-n}
use Rattle.files.proofs.open.OpenDisk.give_blocks.Goals.{else-given-n-via-then-given-n+else-is_free, else-given-n-via-else-given-n}

pub loop-b-init : goal.loop-b-init
loop-b-init c = (
  omega arith,
  refl,
  λ j h l. record_loaded _ _ c.args.self.now.in_step.loaded_map j l,
  walked_none _ _ _ _ _ _ refl c.args.self.now.in_step.long,
)

pub give_block-requires : goal.give_block-requires
unfolding is_free
give_block-requires c =
    let free = ap is_free (sym c.loaded_record.ensures) ∙ sym c.is_free.ensures ∙ c.if-is_free.true in
    (not_first _ _ c.loop-b.self.in_step is_free refl _ free, omega arith, c.requires.0, omega arith)

pub loop-b-preserved : goal.loop-b-preserved
loop-b-preserved c = (
  omega arith,
  elim c.if-given-n.branch [
    | then-given-n+then-is_free w ↦ rw w.self-is (w.give_block.ensures.same_image ∙ c.loop-b.invariant.1)
    | else-given-n w ↦ rw w.self-is c.loop-b.invariant.1
  ],
  elim c.if-given-n.branch [
    | then-given-n+then-is_free w ↦ rw (w.self-is, w.give_block.ensures.numbers) (rest_more _ _ _ _ c.loop-b.invariant.2)
    | else-given-n w ↦ rw w.self-is (λ j p q. c.loop-b.invariant.2 j (omega arith) q)
  ],
  elim c.if-given-n.branch [
    | then-given-n+then-is_free w ↦
        rw (w.self-is, w.given-is)
        (walked_given _ _ _ _ _ _ _ _ c.loop-b.invariant.3 _
        (w.is_free.ensures ∙ ap is_free (w.loaded_record.ensures ∙ c.loop-b.invariant.2 _ (omega arith) (omega arith))) _
        w.if-is_free.true w.if-given-n.true w.give_block.ensures.written)
    | else-given-n w ↦
        rw (w.self-is, w.given-is)
        (elim w.else-given-n.branch [
          | else-given-n-via-then-given-n+else-is_free v ↦
              walked_held _ _ _ _ _ _ _ _ c.loop-b.invariant.3 _
              (v.is_free.ensures ∙ ap is_free (v.loaded_record.ensures ∙ c.loop-b.invariant.2 _ (omega arith) (omega arith))) v.if-is_free.false
          | else-given-n-via-else-given-n v ↦ walked_full _ _ _ _ _ _ _ _ c.loop-b.invariant.3 v.if-given-n.false
        ])
  ],
)

pub returns-clause-same_image : goal.returns-clause-same_image
returns-clause-same_image c = c.loop-b.invariant.1

pub returns-clause-written : goal.returns-clause-written
returns-clause-written c = let e : c.loop-b.b ≡ blocks = omega arith in rw e at c.loop-b.invariant.3.image
