-- `split_item` meets its contract, case by case.
-- Rests on: the laws in Calling/ItemSplit; the contract of fields::high4.
-- Assumes nothing.
use Rattle.std.proofs.Common.{rules}
use Rattle.files.specs.Laws.Calling.ItemSplit.{short_wrong, name_wrong, kind_wrong, remove_read, fields_wrong, content_wrong, add_read}
use Rattle.files.proofs.batching.split_item.Goals as goal

pub returns-in_default : goal.returns-in_default
returns-in_default c = short_wrong _ c.in_default.len_below

pub returns-in_err-name : goal.returns-in_err-name
returns-in_err-name c = rw c.from_residual.ensures (name_wrong c.args.list.now c.in-len2-up.len_at_least _ c.from.ensures c.in_err-name.ensures.cases)

pub returns-in_err-head-in-2 : goal.returns-in_err-head-in-2
returns-in_err-head-in-2 c = rw c.from_residual-in_err-head-in-2.ensures
    (fields_wrong c.args.list.now c.in-len2-up.len_at_least _ c.from.ensures c.in_ok-name.name c.in_ok-name.rest
    c.in_ok-name.ensures.cases c.in-2.is c.in_err-head-in-2.ensures.cases)

pub returns-in_err-content-in-2 : goal.returns-in_err-content-in-2
returns-in_err-content-in-2 c = rw c.from_residual-in_err-content-in-2.ensures
    (content_wrong c.args.list.now c.in-len2-up.len_at_least _ c.from.ensures c.in_ok-name.name c.in_ok-name.rest
    c.in_ok-name.ensures.cases c.in-2.is c.in_ok-head-in-2.head c.in_ok-head-in-2.rest c.in_ok-head-in-2.ensures.cases
    _ _ c.high4-date.ensures c.high4-size.ensures c.in_err-content-in-2.ensures.cases)

pub returns-in-1 : goal.returns-in-1
returns-in-1 c = remove_read c.args.list.now c.in-len2-up.len_at_least _ c.from.ensures c.in_ok-name.name c.in_ok-name.rest c.in_ok-name.ensures.cases c.in-1.is

pub returns-in_ok-content-in-2 : goal.returns-in_ok-content-in-2
returns-in_ok-content-in-2 c =
    add_read c.args.list.now c.in-len2-up.len_at_least _ c.from.ensures c.in_ok-name.name c.in_ok-name.rest
    c.in_ok-name.ensures.cases c.in-2.is c.in_ok-head-in-2.head c.in_ok-head-in-2.rest c.in_ok-head-in-2.ensures.cases
    _ _ c.high4-date.ensures c.high4-size.ensures c.in_ok-content-in-2.content c.in_ok-content-in-2.rest c.in_ok-content-in-2.ensures.cases

pub returns-in_default-kind : goal.returns-in_default-kind
returns-in_default-kind c = kind_wrong _ (λ e. search rules) (λ e. search rules)
