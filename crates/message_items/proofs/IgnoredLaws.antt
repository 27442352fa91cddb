-- Bytes that are ignored in haves: each number is what stands between a filter's field and the end of its have, a place for each have, and the loop that
-- puts them beside the words.
use Prim.Native.Nat.{ℕ, zero, suc, ◌+◌, ◌-◌, ◌≤◌, ◌<◌}
use mathlib.Core.List.{List, [], ◌∷◌, ◌++◌}
use mathlib.Core.Path.{◌≡◌, refl, sym, ◌∙◌, ap}
use native.Mathlib.Omega.{arith}
use lib.ListN.{length, set, length-set}
use lib.Seq.{sets}
use Rattle.bloom.specs.FilterIgnored.{ignored_at}
use Rattle.bloom.specs.declared.have.FilterNumbers.{FilterNumbers}
use Rattle.bloom.proofs.Filters.{filter_inside}
use Rattle.bloom.proofs.IgnoredLaws.{ignored_stands}
use Rattle.message.specs.Message.{total}
use Rattle.wire.specs.Item.{after_part, after_listed}
use Rattle.wire.specs.declared.parse.Run.{Run}
use Rattle.wire.proofs.Item.{prefixed_inside, hash_list_inside}
use Rattle.message_items.specs.ItemsIgnored.{have_ignored, ignored_from}
use Rattle.message_items.specs.Items.{item, after_item, have_at, have_word_list, have_item, many_at}
use Rattle.message_items.proofs.ItemLaws.{have_item_lem, have_behind, many_behind, none_behind}
use Rattle.std.specs.Prelude.{Ok}

-- ---- what stands there

-- Of a have that was read: its string goes from `from` up to the next place, and in it the field and what is ignored behind it go to its end.
pub record IgnoredStands (s : List ℕ) (at : ℕ) (f : FilterNumbers) (next : ℕ) : Type 0 where
  pub from : ℕ
  pub after : at < from
  pub onward : from ≤ f.place
  pub whole : f.place + f.size + have_ignored s at ≡ next
  pub there : next ≤ length s

module _ (s : List ℕ) (at : ℕ) where
  words_stand : (sync : Run) (f : FilterNumbers) (next : ℕ) → have_item s at ≡ item (have_word_list sync f) next → IgnoredStands s at f next
  unfolding have_ignored after_listed after_part
  words_stand sync f next e =
      let b = have_behind s at (have_word_list sync f) next e in
      let same : have_word_list sync f ≡ have_word_list b.sync b.numbers = b.are in
      let place : f.place ≡ b.numbers.place = cc in
      let size : f.size ≡ b.numbers.size = cc in
      let l = hash_list_inside s at (length s) b.sync b.i b.syncs in
      let q = prefixed_inside s b.i (length s) b.from next b.part in
      let w = filter_inside s b.from next b.numbers b.past b.filter in
      let stands = ignored_stands s b.from next b.numbers b.past b.filter q.upward q.there in
      let is : have_ignored s at ≡ ignored_at s b.from next = rw (b.syncs, b.part) in
      record {
        from = b.from;
        after = omega (arith, l.after, l.whole, q.after);
        onward = omega (arith, w.onward);
        whole = omega arith;
        there = q.there;
      }

  pub have_stands : (sync : Run) (f : FilterNumbers) (next : ℕ) → have_at s at ≡ Ok (sync, f, next) → IgnoredStands s at f next
  have_stands sync f next e = words_stand sync f next (have_item_lem s at sync f next e)

-- ---- one after the other

module _ (s : List ℕ) where
  pub ignored_on : (left at : ℕ) (words : List ℕ) (next : ℕ) → have_item s at ≡ item words next
      → ignored_from s (suc left) at ≡ have_ignored s at ∷ ignored_from s left next
  unfolding ignored_from after_item
  ignored_on left at words next e = rw e

  -- A number for each have.
  pub ignored_many : (count at : ℕ) (words : List ℕ) (next : ℕ) → many_at (have_item s) count at ≡ item words next → length (ignored_from s count at) ≡ count
  unfolding ignored_from
  ignored_many zero at words next e = refl
  ignored_many (suc count) at words next e =
      let b = many_behind (have_item s) at words next count e in
      rw (ignored_on count at b.first b.after b.is) (ap suc (ignored_many count b.after b.more next b.rest))

-- Have by have: the words of each, from one place to the next, and its number behind its field up to that place.
unfoldable pub Ignores : List ℕ → ℕ → ℕ → List ℕ → List ℕ → ℕ → Type 0
Ignores s zero at words ignored next = (words ≡ []) × (ignored ≡ []) × (at ≡ next)
Ignores s (suc count) at words ignored next =
    (sync : Run) × (f : FilterNumbers) × (more : List ℕ) × (rest : List ℕ) × (after : ℕ)
    × (words ≡ have_word_list sync f ++ more)
    × (ignored ≡ have_ignored s at ∷ rest)
    × IgnoredStands s at f after
    × Ignores s count after more rest next

pub ignored_each : (s : List ℕ) (count at : ℕ) (words : List ℕ) (next : ℕ) → many_at (have_item s) count at ≡ item words next
    → Ignores s count at words (ignored_from s count at) next
unfolding Ignores ignored_from
ignored_each s zero at words next e = let n = none_behind (have_item s) at words next e in (n.0, refl, n.1)
ignored_each s (suc count) at words next e =
    let m = many_behind (have_item s) at words next count e in
    let b = have_behind s at m.first m.after m.is in
    let is : have_item s at ≡ item (have_word_list b.sync b.numbers) m.after = m.is ∙ ap (λ (w : List ℕ). item w m.after) b.are in
    let stands = words_stand s at b.sync b.numbers m.after is in
    let are : words ≡ have_word_list b.sync b.numbers ++ m.more = sym m.are ∙ ap (λ (w : List ℕ). w ++ m.more) b.are in
    let more = ignored_each s count m.after m.more next m.rest in
    (b.sync, b.numbers, m.more, ignored_from s count m.after, m.after, are, ignored_on s count at m.first m.after m.is, stands, more)

-- ---- putting them

-- the numbers that were put and those still to come make the list that all of them make; the sum so far is below the place reached
module _ (s : List ℕ) (ignored₀ : List ℕ) (count start : ℕ) where
  pub record Counting (ignored : List ℕ) (sum next k : ℕ) : Type 0 where
    pub long : length ignored ≡ length ignored₀
    pub most : sum ≤ next
    pub same : sets ignored k (ignored_from s (count - k) next) ≡ sets ignored₀ 0 (ignored_from s count start)
    pub rest : sum + total (ignored_from s (count - k) next) ≡ total (ignored_from s count start)

  module _ (ignored : List ℕ) (sum next k : ℕ) (p : Counting ignored sum next k) where
    pub counting_ends : count ≤ k → (ignored ≡ sets ignored₀ 0 (ignored_from s count start)) × (sum ≡ total (ignored_from s count start))
    unfolding ignored_from total
    counting_ends h =
        let e : count - k ≡ 0 = omega arith in
        let a : sets ignored k (ignored_from s 0 next) ≡ sets ignored₀ 0 (ignored_from s count start) = rw e at p.same in
        let b : sum + total (ignored_from s 0 next) ≡ total (ignored_from s count start) = rw e at p.rest in
        let z : sum + total (ignored_from s 0 next) ≡ sum = omega arith in
        (a, sym z ∙ b)

    module _ (here : k < count) (sync : Run) (f : FilterNumbers) (after : ℕ) (is : have_at s next ≡ Ok (sync, f, after)) where
      stands : IgnoredStands s next f after
      stands = have_stands s next sync f after is

      pub number_is : have_ignored s next ≡ after - (f.place + f.size)
      number_is = omega (arith, stands.whole)

      pub number_fits : f.place + f.size ≤ after
      number_fits = omega (arith, stands.whole)

      pub ends_there : after ≤ length s
      ends_there = stands.there

      pub sum_fits : sum + (after - (f.place + f.size)) ≤ after
      sum_fits = omega (arith, stands.after, stands.onward, stands.whole, p.most)

      pub counting_on : Counting (set ignored k (after - (f.place + f.size))) (sum + (after - (f.place + f.size))) after (k + 1)
      unfolding total
      counting_on =
          let d : count - k ≡ suc (count - (k + 1)) = omega arith in
          let up : k + 1 ≡ suc k = omega arith in
          let n : ℕ = after - (f.place + f.size) in
          let more : List ℕ = ignored_from s (count - (k + 1)) after in
          let all : ignored_from s (count - k) next ≡ n ∷ more =
          rw d (ignored_on s (count - (k + 1)) next (have_word_list sync f) after (have_item_lem s next sync f after is) ∙ ap (λ (x : ℕ). x ∷ more) number_is)
          in
          let a : sets ignored k (n ∷ more) ≡ sets ignored₀ 0 (ignored_from s count start) = rw all at p.same in
          let b : sum + total (n ∷ more) ≡ total (ignored_from s count start) = rw all at p.rest in
          record {
            long = length-set ignored k n ∙ p.long;
            most = sum_fits;
            same = ap (λ (j : ℕ). sets (set ignored k n) j more) up ∙ a;
            rest = omega arith;
          }
