-- `bloom_probe::contains::filters_contain` meets its contract: one case of `contained_in` for each answer. Assumes nothing.
use Prim.Native.Nat.{ℕ, ◌≤◌, ◌<◌}
use mathlib.Core.Bool.{true, false}
use mathlib.Core.List.{List}
use mathlib.Core.Path.{◌≡◌, sym, ◌∙◌}
use native.Mathlib.Omega.{arith}
use borrow.Author.Tests.{lt-ltb, le-ltb}
use lib.ListN.{length}
use Rattle.rules.specs.Hash.{hash_at}
use Rattle.rules.specs.Sizes.{sizes}
use Rattle.rules.specs.declared.refusal.Refusal.TheVariants.{Cut, PastSize, BadNumbers}
use Rattle.bloom.specs.Have.{filters_of, passed_good, passed_few}
use Rattle.bloom_probe.specs.Contains.{contained_in, any_contains}
use Rattle.bloom.proofs.HaveLaws.{good_filters, passed_haves}
use Rattle.bloom_probe.proofs.contains.filters_contain.Goals as goal
use Rattle.std.specs.Prelude.{Ok, Err}

module _ (s haves hash : List ℕ) where
  bad : passed_good s haves ≡ false → Err BadNumbers ≡ contained_in s haves hash
  unfolding contained_in
  bad e = rw e

  module _ (good : passed_good s haves ≡ true) where
    many : passed_few haves ≡ false → Err (PastSize 0) ≡ contained_in s haves hash
    unfolding contained_in
    many e = rw (good, e)

    module _ (few : passed_few haves ≡ true) where
      long : sizes.hash < length hash → Err (PastSize 0) ≡ contained_in s haves hash
      unfolding contained_in
      long h = rw (good, few, lt-ltb _ _ h)

      module _ (most : length hash ≤ sizes.hash) where
        short : length hash < sizes.hash → Err (Cut 0) ≡ contained_in s haves hash
        unfolding contained_in
        short h = rw (good, few, le-ltb _ _ most, lt-ltb _ _ h)

        module _ (least : sizes.hash ≤ length hash) where
          held : any_contains (filters_of s haves) (hash_at hash 0) ≡ true → (Ok true) ≡ contained_in s haves hash
          unfolding contained_in
          held e = rw (good, few, le-ltb _ _ most, le-ltb _ _ least, e)

          missed : any_contains (filters_of s haves) (hash_at hash 0) ≡ false → (Ok false) ≡ contained_in s haves hash
          unfolding contained_in
          missed e = rw (good, few, le-ltb _ _ most, le-ltb _ _ least, e)

pub returns-then-not-passed_good : goal.returns-then-not-passed_good
returns-then-not-passed_good c = bad _ _ _ (sym c.passed_good.ensures ∙ c.if-not-passed_good.true)

pub returns-then-not-passed_few : goal.returns-then-not-passed_few
returns-then-not-passed_few c =
    many _ _ _ (sym c.passed_good.ensures ∙ c.if-not-passed_good.false) (sym c.passed_few.ensures ∙ c.if-not-passed_few.true)

pub returns-then-hash-gt-HASH_SIZE : goal.returns-then-hash-gt-HASH_SIZE
returns-then-hash-gt-HASH_SIZE c = long _ _ _ ((let it : passed_good c.args.bytes.now c.args.haves.now ≡ true = sym c.passed_good.ensures ∙ c.if-not-passed_good.false in it)) ((let it : passed_few c.args.haves.now ≡ true = sym c.passed_few.ensures ∙ c.if-not-passed_few.false in it)) c.if-hash-gt-HASH_SIZE.true

pub returns-then-hash-lt-HASH_SIZE : goal.returns-then-hash-lt-HASH_SIZE
returns-then-hash-lt-HASH_SIZE c = short _ _ _ ((let it : passed_good c.args.bytes.now c.args.haves.now ≡ true = sym c.passed_good.ensures ∙ c.if-not-passed_good.false in it)) ((let it : passed_few c.args.haves.now ≡ true = sym c.passed_few.ensures ∙ c.if-not-passed_few.false in it)) c.if-hash-gt-HASH_SIZE.false c.if-hash-lt-HASH_SIZE.true

pub contains_hash-requires : goal.contains_hash-requires
contains_hash-requires c =
    (good_filters _ _ (passed_haves _ _ ((let it : passed_good c.args.bytes.now c.args.haves.now ≡ true = sym c.passed_good.ensures ∙ c.if-not-passed_good.false in it)) ((let it : passed_few c.args.haves.now ≡ true = sym c.passed_few.ensures ∙ c.if-not-passed_few.false in it))), omega (arith, c.if-hash-lt-HASH_SIZE.false))

pub returns-then-contains_hash : goal.returns-then-contains_hash
returns-then-contains_hash c =
    held _ _ _ ((let it : passed_good c.args.bytes.now c.args.haves.now ≡ true = sym c.passed_good.ensures ∙ c.if-not-passed_good.false in it)) ((let it : passed_few c.args.haves.now ≡ true = sym c.passed_few.ensures ∙ c.if-not-passed_few.false in it)) c.if-hash-gt-HASH_SIZE.false c.if-hash-lt-HASH_SIZE.false (sym c.contains_hash.ensures ∙ c.if-contains_hash.true)

pub returns : goal.returns
returns c =
    missed _ _ _ ((let it : passed_good c.args.bytes.now c.args.haves.now ≡ true = sym c.passed_good.ensures ∙ c.if-not-passed_good.false in it)) ((let it : passed_few c.args.haves.now ≡ true = sym c.passed_few.ensures ∙ c.if-not-passed_few.false in it)) c.if-hash-gt-HASH_SIZE.false c.if-hash-lt-HASH_SIZE.false (sym c.contains_hash.ensures ∙ c.if-contains_hash.false)
