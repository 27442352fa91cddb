-- `table_index::fit::entries_fit` meets its contract: what the entries from the i-th on say behind the last one is what all of them say, until one
-- doesn't fit or none is left. Assumes nothing.
use borrow.Author.Rules.{rules}
use mathlib.Core.Path.{sym, ◌∙◌}
use Rattle.table_index.proofs.FitLaws.{chain_none, chain_high, chain_starts, chain_past, chain_falls, chain_on, chain_ends}
use native.Mathlib.Omega.{arith}
use Rattle.table_index.proofs.fit.entries_fit.Goals as goal

pub returns-then-n-eq0 : goal.returns-then-n-eq0
returns-then-n-eq0 c = sym (chain_none _ _ _ c.if-n-eq0.true)

pub returns-then-n-last : goal.returns-then-n-last
returns-then-n-last c = sym (chain_high _ _ _ _ (omega arith) c.u16_at-last.ensures c.if-n-last.true)

pub loop-i-init : goal.loop-i-init
loop-i-init c =
    record { low = c.if-n-last.false; rest = chain_starts _ _ _ _ (omega arith) c.u16_at-last.ensures c.if-n-last.false }

pub returns-then-n-r : goal.returns-then-n-r
returns-then-n-r c =
    let v = c.loop-i.invariant in
    sym (chain_past _ _ _ _ _ _ v.low c.loop-i-test.true c.u16_at-r.ensures c.if-n-r.true) ∙ v.rest

pub returns-then-not-hash_before : goal.returns-then-not-hash_before
returns-then-not-hash_before c =
    let v = c.loop-i.invariant in
    sym
    (chain_falls _ _ _ _ _ _ v.low c.loop-i-test.true c.u16_at-r.ensures c.if-n-r.false
    (sym c.hash_before.ensures ∙ c.if-not-hash_before.true))
    ∙ v.rest

pub loop-i-preserved : goal.loop-i-preserved
loop-i-preserved c =
    let v = c.loop-i.invariant in
    record {
      low = c.if-n-r.false;
      rest =
          sym
          (chain_on _ _ _ _ _ _ v.low c.loop-i-test.true c.u16_at-r.ensures c.if-n-r.false
          (search rules))
          ∙ v.rest;
    }

pub returns : goal.returns
returns c = sym (chain_ends _ _ _ _ _ c.loop-i-test.false) ∙ c.loop-i.invariant.rest
