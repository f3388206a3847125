-- `table::form::layer` meets its contract.
-- Assumes nothing.
use Rattle.std.proofs.Common.{◌∙◌, sym, rules}
use Rattle.text.specs.Template.{capital, holes}
use Rattle.table.proofs.LayerParts as law
use Rattle.table.proofs.form.layer.Goals as goal

pub returns-in_err-first : goal.returns-in_err-first
returns-in_err-first c =
    c.from_residual.ensures ∙ law.no-beginning _ _ (sym (c.in_err-first.was {u = tt}) ∙ c.read_at.ensures)

pub rates-requires : goal.rates-requires
rates-requires c =
    let first = sym (c.in_ok-first.was {u = tt}) ∙ c.read_at.ensures in
    law.beginning-within _ _ c.requires _ first

pub returns-in_err-back : goal.returns-in_err-back
returns-in_err-back c =
    let first = sym (c.in_ok-first.was {u = tt}) ∙ c.read_at.ensures in
    let none = sym (c.in_err-back.was {u = tt}) ∙ c.rates.ensures in
    c.from_residual-in_err-back.ensures ∙ law.no-rates _ _ c.requires _ first none

pub read_at-requires-2 : goal.read_at-requires-2
unfolding capital holes
read_at-requires-2 c =
    let first = sym (c.in_ok-first.was {u = tt}) ∙ c.read_at.ensures in
    let back = sym (c.in_ok-back.was {u = tt}) ∙ c.rates.ensures in
    let inside = law.rates-within _ _ c.requires _ first _ back in
    search rules

pub returns-in_err-last : goal.returns-in_err-last
returns-in_err-last c =
    let first = sym (c.in_ok-first.was {u = tt}) ∙ c.read_at.ensures in
    let back = sym (c.in_ok-back.was {u = tt}) ∙ c.rates.ensures in
    let none = sym (c.in_err-last.was {u = tt}) ∙ c.read_at-2.ensures in
    c.from_residual-in_err-last.ensures ∙ law.no_end _ _ c.requires _ first _ back none

pub tail_time-requires : goal.tail_time-requires
tail_time-requires c =
    let first = sym (c.in_ok-first.was {u = tt}) ∙ c.read_at.ensures in
    let back = sym (c.in_ok-back.was {u = tt}) ∙ c.rates.ensures in
    let last = sym (c.in_ok-last.was {u = tt}) ∙ c.read_at-2.ensures in
    law.end-within _ _ c.requires _ first _ back _ last

pub returns-in_err-time : goal.returns-in_err-time
returns-in_err-time c =
    let first = sym (c.in_ok-first.was {u = tt}) ∙ c.read_at.ensures in
    let back = sym (c.in_ok-back.was {u = tt}) ∙ c.rates.ensures in
    let last = sym (c.in_ok-last.was {u = tt}) ∙ c.read_at-2.ensures in
    let none = sym (c.in_err-time.was {u = tt}) ∙ c.tail_time.ensures in
    c.from_residual-in_err-time.ensures ∙ law.no-tail _ _ c.requires _ first _ back _ last none

pub returns : goal.returns
returns c =
    let first = sym (c.in_ok-first.was {u = tt}) ∙ c.read_at.ensures in
    let back = sym (c.in_ok-back.was {u = tt}) ∙ c.rates.ensures in
    let last = sym (c.in_ok-last.was {u = tt}) ∙ c.read_at-2.ensures in
    let time = sym (c.in_ok-time.was {u = tt}) ∙ c.tail_time.ensures in
    law.whole-layer _ _ c.requires _ first _ back _ last _ time
