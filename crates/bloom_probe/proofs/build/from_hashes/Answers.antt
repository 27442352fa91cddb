-- `bloom_probe::build::from_hashes` meets its contract: its tests are those of the definition, in its order, and an accepted list has as many hashes
-- as the filter rules were asked for. Assumes nothing.
use Prim.Native.Nat.{◌/◌}
use mathlib.Core.Bool.{true}
use mathlib.Core.Path.{◌≡◌, sym, ◌∙◌}
use native.Mathlib.Omega.{arith}
use lib.ListN.{length}
use Rattle.rules.proofs.Outputs.{refused}
use Rattle.rules.proofs.PassedLaws.{passed_is}
use Rattle.rules.specs.Passed.{passed_hashes}
use Rattle.rules.specs.Sizes.{sizes}
use Rattle.bloom.specs.Filter.{field_size, filter_rules}
use Rattle.bloom_probe.proofs.BuildLaws.{bad_numbers, no_list_lem, list_rules, whole_list}
use Rattle.bloom_probe.proofs.build.from_hashes.Goals as goal
use Rattle.rules.proofs.Cases.{handed_on}
use Rattle.std.specs.Prelude.{Ok}

pub returns-then-not-build_rules : goal.returns-then-not-build_rules
returns-then-not-build_rules c = rw (bad_numbers _ _ _ (sym c.build_rules.ensures ∙ c.if-not-build_rules.true)) (refused _ _)

pub build-requires : goal.build-requires
build-requires c =
    let q = (let it : passed_hashes c.args.hashes.now ≡ Ok c.in_ok-n.n = sym c.in_ok-n.ensures in it) in (
      list_rules _ _ _ _ ((let it : (let a = c.args in
          let n = length a.hashes.now / sizes.hash in
          filter_rules n a.bits a.probes (field_size n a.bits) ≡ true) = sym c.build_rules.ensures ∙ c.if-not-build_rules.false in it)) q,
      omega (arith, (passed_is _ _ q).whole),
    )

pub returns-in_err-n : goal.returns-in_err-n
returns-in_err-n c = rw (handed_on c.from_residual.ensures.1) (rw (no_list_lem _ _ _ _ ((let it : (let a = c.args in
    let n = length a.hashes.now / sizes.hash in
    filter_rules n a.bits a.probes (field_size n a.bits) ≡ true) = sym c.build_rules.ensures ∙ c.if-not-build_rules.false in it)) (sym c.in_err-n.ensures)) (refused _ _))

pub returns : goal.returns
returns c =
    rw (whole_list _ _ _ _ ((let it : (let a = c.args in
    let n = length a.hashes.now / sizes.hash in
    filter_rules n a.bits a.probes (field_size n a.bits) ≡ true) = sym c.build_rules.ensures ∙ c.if-not-build_rules.false in it)) ((let it : passed_hashes c.args.hashes.now ≡ Ok c.in_ok-n.n = sym c.in_ok-n.ensures in it))) c.build.ensures
