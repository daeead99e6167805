-- `list_fault` meets its contract: no item before the list that is left is wrong, and item n begins it.
-- Rests on: the laws in Calling/Items; the contract of split_item.
-- Assumes nothing.
use mathlib.Core.Path.{◌≡◌, sym, ap, ◌∙◌}
use mathlib.Core.List.{List}
use Prim.Native.Nat.{ℕ, ◌+◌, ◌<◌}
use lib.ListN.{length}
use native.Mathlib.Omega.{arith}
use Rattle.std.proofs.Common.{rules, tests}
use Rattle.file_rules.specs.Items.{items_from}
use Rattle.files.specs.Laws.Calling.Items.{list_fault, fault_start, fault_end, fault_at, fault_next, next_shorter}
use Rattle.files.proofs.batching.list_fault.Goals as goal

pub loop-rest-init : goal.loop-rest-init
loop-rest-init c = (omega arith, fault_start _)

pub returns-in-None : goal.returns-in-None
returns-in-None c =
    let left : 0 < length c.loop-rest.rest.now = search (rules, tests) in
    sym (c.loop-rest.invariant.1 ∙ fault_at c.loop-rest.n c.loop-rest.rest.now left c.in-None.ensures)

pub overflow_add-n : goal.overflow_add-n
overflow_add-n c = omega (arith, c.loop-rest.invariant.0, next_shorter c.loop-rest.n c.loop-rest.rest.now c.in-Some.ensures.0)

pub loop-rest-smaller : goal.loop-rest-smaller
loop-rest-smaller c = omega (arith, ap length c.in-Some.ensures.2, next_shorter c.loop-rest.n c.loop-rest.rest.now c.in-Some.ensures.0)

pub loop-rest-preserved : goal.loop-rest-preserved
loop-rest-preserved c = (
  omega (arith, c.loop-rest.invariant.0, ap length c.in-Some.ensures.2, next_shorter c.loop-rest.n c.loop-rest.rest.now c.in-Some.ensures.0),
  c.loop-rest.invariant.1 ∙ fault_next c.loop-rest.n c.loop-rest.rest.now c.in-Some.ensures.0
      ∙ ap (λ (m : List ℕ). list_fault (items_from (c.loop-rest.n + 1) 0 m)) (sym c.in-Some.ensures.2),
)

pub returns : goal.returns
returns c =
    let none : length c.loop-rest.rest.now ≡ 0 = search (rules, tests) in
    sym (c.loop-rest.invariant.1 ∙ fault_end c.loop-rest.n c.loop-rest.rest.now none)
