-- `bloom_probe::contains::contains_hash` meets its contract: the filters from record i on decide what all of them do, and in a filter the probes
-- behind one that isn't clear decide what all of them do (Search). A good filter's field isn't empty and stands inside the lent bytes, so each probe does.
-- Assumes nothing.
use Prim.Native.Nat.{ℕ, ◌+◌, ◌-◌, ◌*◌, ◌%◌, ◌<◌, max}
use mathlib.Core.Path.{◌≡◌, sym, ◌∙◌}
use native.Mathlib.Nat.{mod-lt}
use native.Mathlib.Omega.{arith}
use lib.ListN.{take, drop}
use Rattle.rules.specs.Hash.{hash_at}
use Rattle.bloom_probe.specs.Contains.{none_clear, contains}
use Rattle.bloom_probe.specs.Probes.{probes_from}
use Rattle.bloom.specs.Have.{filter_with}
use Rattle.bloom_probe.proofs.Search.{probe_clear, probe_on, probes_done, no_entries, search_starts, search_found, search_on, search_done, Probed, probed, field_long, probes_decide}
use Rattle.bloom_probe.proofs.contains.contains_hash.Goals as goal

pub next_filter-init : goal.next_filter-init
next_filter-init c = search_starts _ _ _

pub next_filter-preserved-then-f-eq0 : goal.next_filter-preserved-then-f-eq0
next_filter-preserved-then-f-eq0 c =
    sym
    (search_on _ _ _ _ _ _
    c.next_filter-test.true
    c.filter_in-f.ensures
    (no_entries _ _ _ c.if-f-eq0.true))
    ∙ c.next_filter.invariant

pub overflow_add-field : goal.overflow_add-field
overflow_add-field c = let p = (let it : (let a = c.args in
    Probed a.bytes.now c.filter_in-f.result) = probed _ _ (rw c.filter_in-f.ensures (c.requires.0.each c.next_filter.i c.next_filter-test.true)) c.if-f-eq0.false in it) in omega arith

pub slice_bounds-field-end : goal.slice_bounds-field-end
slice_bounds-field-end c = let p = (let it : (let a = c.args in
    Probed a.bytes.now c.filter_in-f.result) = probed _ _ (rw c.filter_in-f.ensures (c.requires.0.each c.next_filter.i c.next_filter-test.true)) c.if-f-eq0.false in it) in omega arith

pub overflow_cast-m : goal.overflow_cast-m
overflow_cast-m c = let p = (let it : (let a = c.args in
    Probed a.bytes.now c.filter_in-f.result) = probed _ _ (rw c.filter_in-f.ensures (c.requires.0.each c.next_filter.i c.next_filter-test.true)) c.if-f-eq0.false in it) in omega arith

pub overflow_mul-m : goal.overflow_mul-m
overflow_mul-m c = let p = (let it : (let a = c.args in
    Probed a.bytes.now c.filter_in-f.result) = probed _ _ (rw c.filter_in-f.ensures (c.requires.0.each c.next_filter.i c.next_filter-test.true)) c.if-f-eq0.false in it) in omega arith

pub nonzero_rem-x : goal.nonzero_rem-x
nonzero_rem-x c = let p = (let it : (let a = c.args in
    Probed a.bytes.now c.filter_in-f.result) = probed _ _ (rw c.filter_in-f.ensures (c.requires.0.each c.next_filter.i c.next_filter-test.true)) c.if-f-eq0.false in it) in omega arith

pub clear_bit-requires : goal.clear_bit-requires
clear_bit-requires c =
    let p = (let it : (let a = c.args in
    Probed a.bytes.now c.filter_in-f.result) = probed _ _ (rw c.filter_in-f.ensures (c.requires.0.each c.next_filter.i c.next_filter-test.true)) c.if-f-eq0.false in it) in
    omega (
      arith,
      field_long _ _ p,
      (let it : (n : ℕ)
          → let m = 8 * c.filter_in-f.result.size in n % m < m = λ n. let p = (let it : (let a = c.args in
          Probed a.bytes.now c.filter_in-f.result) = probed _ _ (rw c.filter_in-f.ensures (c.requires.0.each c.next_filter.i c.next_filter-test.true)) c.if-f-eq0.false in it) in mod-lt n (omega arith) in it) c.u32_at-first.result,
    )

pub next_filter-preserved-then-clear_bit : goal.next_filter-preserved-then-clear_bit
next_filter-preserved-then-clear_bit c =
    let shut = sym c.clear_bit.ensures ∙ c.if-clear_bit.true in
    let misses = (let it : (let a = c.args in
    let f = c.filter_in-f.result in
    let m = 8 * f.size in
    contains (filter_with a.bytes.now f) (hash_at a.hashes.now a.at)
    ≡ none_clear
    (take (f.place + f.size - f.place) (drop f.place a.bytes.now))
    (probes_from (max 1 f.probes) m (c.u32_at-first.result % m) (c.u32_at-second.result % m) (c.u32_at-third.result % m))) = rw (c.u32_at-first.ensures, c.u32_at-second.ensures, c.u32_at-third.ensures)
    (probes_decide _ _ _ _
    ((let it : (let a = c.args in
    Probed a.bytes.now c.filter_in-f.result) = probed _ _ (rw c.filter_in-f.ensures (c.requires.0.each c.next_filter.i c.next_filter-test.true)) c.if-f-eq0.false in it))
    c.if-f-eq0.false
    (λ i. (c.type_inv.hashes i).fits)
    c.requires.1) in it) ∙ probe_clear _ _ _ _ _ _ (omega arith) shut in
    sym (search_on _ _ _ _ _ _ c.next_filter-test.true c.filter_in-f.ensures misses)
    ∙ c.next_filter.invariant

pub nonzero_rem-y : goal.nonzero_rem-y
nonzero_rem-y c = let p = (let it : (let a = c.args in
    Probed a.bytes.now c.filter_in-f.result) = probed _ _ (rw c.filter_in-f.ensures (c.requires.0.each c.next_filter.i c.next_filter-test.true)) c.if-f-eq0.false in it) in omega arith

pub nonzero_rem-z : goal.nonzero_rem-z
nonzero_rem-z c = let p = (let it : (let a = c.args in
    Probed a.bytes.now c.filter_in-f.result) = probed _ _ (rw c.filter_in-f.ensures (c.requires.0.each c.next_filter.i c.next_filter-test.true)) c.if-f-eq0.false in it) in omega arith

pub loop-init : goal.loop-init
loop-init c =
    let open' = sym c.clear_bit.ensures ∙ c.if-clear_bit.false in
    record {
      xs = (let it : (n : ℕ)
          → let m = 8 * c.filter_in-f.result.size in n % m < m = λ n. let p = (let it : (let a = c.args in
          Probed a.bytes.now c.filter_in-f.result) = probed _ _ (rw c.filter_in-f.ensures (c.requires.0.each c.next_filter.i c.next_filter-test.true)) c.if-f-eq0.false in it) in mod-lt n (omega arith) in it) _;
      ys = (let it : (n : ℕ)
          → let m = 8 * c.filter_in-f.result.size in n % m < m = λ n. let p = (let it : (let a = c.args in
          Probed a.bytes.now c.filter_in-f.result) = probed _ _ (rw c.filter_in-f.ensures (c.requires.0.each c.next_filter.i c.next_filter-test.true)) c.if-f-eq0.false in it) in mod-lt n (omega arith) in it) _;
      rest = sym (probe_on _ _ _ _ _ _ _ (omega (arith, c.count-rounds.ensures)) open');
    }

pub next-probe-requires : goal.next-probe-requires
next-probe-requires c =
    let p = (let it : (let a = c.args in
    Probed a.bytes.now c.filter_in-f.result) = probed _ _ (rw c.filter_in-f.ensures (c.requires.0.each c.next_filter.i c.next_filter-test.true)) c.if-f-eq0.false in it) in (
      c.loop.invariant.xs,
      c.loop.invariant.ys,
      (let it : (n : ℕ)
          → let m = 8 * c.filter_in-f.result.size in n % m < m = λ n. let p = (let it : (let a = c.args in
          Probed a.bytes.now c.filter_in-f.result) = probed _ _ (rw c.filter_in-f.ensures (c.requires.0.each c.next_filter.i c.next_filter-test.true)) c.if-f-eq0.false in it) in mod-lt n (omega arith) in it) _,
      omega arith,
    )

pub next_filter-preserved : goal.next_filter-preserved
next_filter-preserved c =
    let shut = sym c.clear_bit-in-loop.ensures ∙ c.if-clear_bit-2.true in
    let misses =
    (let it : (let a = c.args in
    let f = c.filter_in-f.result in
    let m = 8 * f.size in
    contains (filter_with a.bytes.now f) (hash_at a.hashes.now a.at)
    ≡ none_clear
    (take (f.place + f.size - f.place) (drop f.place a.bytes.now))
    (probes_from c.count-rounds.result m (c.u32_at-first.result % m) (c.u32_at-second.result % m) (c.u32_at-third.result % m))) = rw c.count-rounds.ensures ((let it : (let a = c.args in
    let f = c.filter_in-f.result in
    let m = 8 * f.size in
    contains (filter_with a.bytes.now f) (hash_at a.hashes.now a.at)
    ≡ none_clear
    (take (f.place + f.size - f.place) (drop f.place a.bytes.now))
    (probes_from (max 1 f.probes) m (c.u32_at-first.result % m) (c.u32_at-second.result % m) (c.u32_at-third.result % m))) = rw (c.u32_at-first.ensures, c.u32_at-second.ensures, c.u32_at-third.ensures)
    (probes_decide _ _ _ _
    ((let it : (let a = c.args in
    Probed a.bytes.now c.filter_in-f.result) = probed _ _ (rw c.filter_in-f.ensures (c.requires.0.each c.next_filter.i c.next_filter-test.true)) c.if-f-eq0.false in it))
    c.if-f-eq0.false
    (λ i. (c.type_inv.hashes i).fits)
    c.requires.1) in it)) in it)
    ∙ sym c.loop.invariant.rest
    ∙ probe_clear _ _ _ _ _ _ (omega (arith, c.loop-test.true)) (rw c.next-probe.ensures at shut) in
    sym (search_on _ _ _ _ _ _ c.next_filter-test.true c.filter_in-f.ensures misses)
    ∙ c.next_filter.invariant

pub loop-preserved : goal.loop-preserved
loop-preserved c =
    let open' = sym c.clear_bit-in-loop.ensures ∙ c.if-clear_bit-2.false in
    record {
      xs = rw c.next-probe.ensures ((let it : (n : ℕ)
          → let m = 8 * c.filter_in-f.result.size in n % m < m = λ n. let p = (let it : (let a = c.args in
          Probed a.bytes.now c.filter_in-f.result) = probed _ _ (rw c.filter_in-f.ensures (c.requires.0.each c.next_filter.i c.next_filter-test.true)) c.if-f-eq0.false in it) in mod-lt n (omega arith) in it) _);
      ys = rw c.next-probe.ensures ((let it : (n : ℕ)
          → let m = 8 * c.filter_in-f.result.size in n % m < m = λ n. let p = (let it : (let a = c.args in
          Probed a.bytes.now c.filter_in-f.result) = probed _ _ (rw c.filter_in-f.ensures (c.requires.0.each c.next_filter.i c.next_filter-test.true)) c.if-f-eq0.false in it) in mod-lt n (omega arith) in it) _);
      rest =
          rw c.next-probe.ensures
          (sym (probe_on _ _ _ _ _ _ _ (omega (arith, c.loop-test.true)) (rw c.next-probe.ensures at open')) ∙ c.loop.invariant.rest);
    }

pub returns-in-next_filter : goal.returns-in-next_filter
returns-in-next_filter c =
    let all = (let it : (let a = c.args in
    let f = c.filter_in-f.result in
    let m = 8 * f.size in
    contains (filter_with a.bytes.now f) (hash_at a.hashes.now a.at)
    ≡ none_clear
    (take (f.place + f.size - f.place) (drop f.place a.bytes.now))
    (probes_from c.count-rounds.result m (c.u32_at-first.result % m) (c.u32_at-second.result % m) (c.u32_at-third.result % m))) = rw c.count-rounds.ensures ((let it : (let a = c.args in
    let f = c.filter_in-f.result in
    let m = 8 * f.size in
    contains (filter_with a.bytes.now f) (hash_at a.hashes.now a.at)
    ≡ none_clear
    (take (f.place + f.size - f.place) (drop f.place a.bytes.now))
    (probes_from (max 1 f.probes) m (c.u32_at-first.result % m) (c.u32_at-second.result % m) (c.u32_at-third.result % m))) = rw (c.u32_at-first.ensures, c.u32_at-second.ensures, c.u32_at-third.ensures)
    (probes_decide _ _ _ _
    ((let it : (let a = c.args in
    Probed a.bytes.now c.filter_in-f.result) = probed _ _ (rw c.filter_in-f.ensures (c.requires.0.each c.next_filter.i c.next_filter-test.true)) c.if-f-eq0.false in it))
    c.if-f-eq0.false
    (λ i. (c.type_inv.hashes i).fits)
    c.requires.1) in it)) in it) ∙ sym c.loop.invariant.rest ∙ probes_done _ _ _ _ _ _ (omega (arith, c.loop-test.false)) in
    sym (search_found _ _ _ _ _ _ c.next_filter-test.true c.filter_in-f.ensures all)
    ∙ c.next_filter.invariant

pub returns : goal.returns
returns c = sym (search_done _ _ _ _ _ c.next_filter-test.false) ∙ c.next_filter.invariant
