-- A message written: one law for each way through the tests, in their order; and what stands behind a message that is written.
use Prim.Native.Nat.{ℕ, suc, ◌+◌, ◌-◌, ◌*◌, ◌/◌, ◌≤◌, ◌<◌}
use mathlib.Core.Bool.{true, false}
use mathlib.Core.List.{List, [], ◌∷◌, ◌++◌}
use mathlib.Core.Path.{◌≡◌, refl, sym, ◌∙◌, ap}
use native.Mathlib.Numerals.{add-one}
use native.Mathlib.Omega.{arith}
use borrow.Author.Tests.{lt-ltb, le-ltb, ltb-true, ltb-false}
use lib.Dec.{ltb}
use lib.ListN.{length, get_or, drop, length-append}
use lib.Seq.{sets, drop-cons, drop-length}
use Rattle.bloom.specs.Have.{haves_of, passed_good, passed_few, GoodHaves}
use Rattle.message.specs.Flags.{section_bytes}
use Rattle.message.specs.Message.{Message, counted, total, have_bytes, message_bytes}
use Rattle.message.specs.declared.version.MessageVersion.{MessageVersion}
use Rattle.rules.specs.Output.{Output, bytes, refuse, size_of, Written}
use Rattle.rules.specs.Passed.{passed_hashes, after_passed}
use Rattle.rules.specs.Sizes.{sizes}
use Rattle.rules.specs.declared.refusal.Refusal.{Refusal}
use Rattle.rules.specs.declared.refusal.Refusal.TheVariants.{Cut, PastSize, NoRoom, BadNumbers}
use Rattle.rules.proofs.Cases.{split}
use Rattle.rules.proofs.Outputs.{written_bytes, no_room, refused}
use Rattle.rules.proofs.PassedLaws.{passed_is}
use Rattle.wire.specs.Item.{prefixed_bytes, hash_list_bytes}
use Rattle.leb128.specs.Number.{shortest}
use Rattle.message.specs.Write.{Parts, parts_of, hashes_of, chunks_from, message_of, test_haves, test_hashes, test_few, test_chunks, within_size, message_output}
use Rattle.message_size.proofs.SizeLaws.{most_list_lem, most_haves, numbers_total, hash_list_long, ten, counted_is, chunks_long, chunks_bytes_lem, total_next, numbers_next, haves_small}
use Rattle.std.specs.Prelude.{Result, Ok, Err, Option, Some, None}
use Rattle.message.specs.declared.flags.MessageFlags.{MessageFlags}

-- ---- an output and its size

pub size_refused : (o : Output) (r : Refusal) → size_of o ≡ Err r → o ≡ refuse r
unfolding size_of
size_refused (bytes l) r e = absurd (let z : ◌≡◌ {A = ℕ} 0 1 = cc in omega arith)
size_refused (refuse q) r e = let d : q ≡ r = cc in ap refuse d

pub refused_size : (o : Output) (r : Refusal) → o ≡ refuse r → Err r ≡ size_of o
unfolding size_of
refused_size o r e = rw e

pub record SizedBytes (o : Output) (n : ℕ) : Type 0 where
  pub list : List ℕ
  pub is : o ≡ bytes list
  pub long : n ≡ length list

pub size_bytes : (o : Output) (n : ℕ) → size_of o ≡ Ok n → SizedBytes o n
unfolding size_of
size_bytes (bytes l) n e = let d : length l ≡ n = cc in record { list = l; is = refl; long = sym d }
size_bytes (refuse q) n e = absurd (let z : ◌≡◌ {A = ℕ} 0 1 = cc in omega arith)

no_bytes_refused : {A : Type 0} (r : Refusal) (l : List ℕ) → refuse r ≡ bytes l → A
no_bytes_refused r l e = absurd (let z : ◌≡◌ {A = ℕ} 0 1 = cc in omega arith)

not_refused : {A : Type 0} (r : Refusal) (l : List ℕ) → bytes l ≡ refuse r → A
not_refused r l e = absurd (let z : ◌≡◌ {A = ℕ} 0 1 = cc in omega arith)

-- ---- each test: it refuses, or what follows is the output; what an output's bytes say of it; and that its refusals hang on nothing that follows

module _ (s haves : List ℕ) where
  module _ (o : Output) where
    haves_bad : passed_good s haves ≡ false → test_haves s haves o ≡ refuse BadNumbers
    unfolding test_haves
    haves_bad e = rw e

    haves_pass : passed_good s haves ≡ true → test_haves s haves o ≡ o
    unfolding test_haves
    haves_pass e = rw e

    haves_apart : (l : List ℕ) → test_haves s haves o ≡ bytes l → (passed_good s haves ≡ true) × (o ≡ bytes l)
    haves_apart l e =
        split (passed_good s haves) (λ g. (g, sym (haves_pass g) ∙ e)) (λ g. no_bytes_refused _ _ (sym (haves_bad g) ∙ e))

  haves_refused : (o q : Output) (r : Refusal) → (o ≡ refuse r → q ≡ refuse r) → test_haves s haves o ≡ refuse r → test_haves s haves q ≡ refuse r
  haves_refused o q r f e =
      split (passed_good s haves) (λ g. haves_pass q g ∙ f (sym (haves_pass o g) ∙ e)) (λ g. haves_bad q g ∙ sym (haves_bad o g) ∙ e)

module _ (s : List ℕ) where
  module _ (o : Output) where
    hashes_stop : (r : Refusal) → passed_hashes s ≡ Err r → test_hashes s o ≡ refuse r
    unfolding test_hashes after_passed
    hashes_stop r e = rw e

    hashes_pass : (n : ℕ) → passed_hashes s ≡ Ok n → test_hashes s o ≡ o
    unfolding test_hashes after_passed
    hashes_pass n e = rw e

    hashes_apart : (l : List ℕ) → test_hashes s o ≡ bytes l → (passed_hashes s ≡ Ok (length s / sizes.hash)) × (o ≡ bytes l)
    hashes_apart l e = go (passed_hashes s) refl
      where
        go : (x : Result ℕ Refusal) → passed_hashes s ≡ x → (passed_hashes s ≡ Ok (length s / sizes.hash)) × (o ≡ bytes l)
        go (Ok n) q =
            let w : n ≡ length s / sizes.hash = omega (arith, (passed_is s n q).whole) in
            (q ∙ ap Ok w, sym (hashes_pass n q) ∙ e)
        go (Err r) q = no_bytes_refused _ _ (sym (hashes_stop r q) ∙ e)

  hashes_refused : (o q : Output) (r : Refusal) → (o ≡ refuse r → q ≡ refuse r) → test_hashes s o ≡ refuse r → test_hashes s q ≡ refuse r
  hashes_refused o q r f e = go (passed_hashes s) refl
    where
      go : (x : Result ℕ Refusal) → passed_hashes s ≡ x → test_hashes s q ≡ refuse r
      go (Ok n) d = hashes_pass q n d ∙ f (sym (hashes_pass o n d) ∙ e)
      go (Err t) d = hashes_stop q t d ∙ sym (hashes_stop o t d) ∙ e

module _ (haves lengths : List ℕ) where
  module _ (o : Output) where
    few_haves_lem : passed_few haves ≡ false → test_few haves lengths o ≡ refuse (PastSize 0)
    unfolding test_few
    few_haves_lem e = rw e

    module _ (few : passed_few haves ≡ true) where
      few_chunks_lem : sizes.chunks < length lengths → test_few haves lengths o ≡ refuse (PastSize 0)
      unfolding test_few
      few_chunks_lem h = rw (few, lt-ltb _ _ h)

      few_pass : length lengths ≤ sizes.chunks → test_few haves lengths o ≡ o
      unfolding test_few
      few_pass h = rw (few, le-ltb _ _ h)

    few_apart : (l : List ℕ) → test_few haves lengths o ≡ bytes l → (passed_few haves ≡ true) × (length lengths ≤ sizes.chunks) × (o ≡ bytes l)
    few_apart l e =
        split (passed_few haves)
        (λ f.
        split (ltb sizes.chunks (length lengths))
        (λ t. no_bytes_refused _ _ (sym (few_chunks_lem f (ltb-true _ _ t)) ∙ e))
        (λ t. let h = ltb-false _ _ t in (f, h, sym (few_pass f h) ∙ e)))
        (λ f. no_bytes_refused _ _ (sym (few_haves_lem f) ∙ e))

  few_refused : (o q : Output) (r : Refusal) → (o ≡ refuse r → q ≡ refuse r) → test_few haves lengths o ≡ refuse r → test_few haves lengths q ≡ refuse r
  few_refused o q r f e =
      split (passed_few haves)
      (λ g.
      split (ltb sizes.chunks (length lengths))
      (λ t. let h = ltb-true _ _ t in few_chunks_lem q g h ∙ sym (few_chunks_lem o g h) ∙ e)
      (λ t. let h = ltb-false _ _ t in few_pass q g h ∙ f (sym (few_pass o g h) ∙ e)))
      (λ g. few_haves_lem q g ∙ sym (few_haves_lem o g) ∙ e)

module _ (s : List ℕ) where
  module _ (o : Output) where
    chunks_cut : (n at : ℕ) (ns : List ℕ) → length s - at < n → test_chunks s at (n ∷ ns) o ≡ refuse (Cut at)
    unfolding test_chunks
    chunks_cut n at ns h = rw (lt-ltb _ _ h)

    chunks_next : (n at : ℕ) (ns : List ℕ) → n ≤ length s - at → test_chunks s at (n ∷ ns) o ≡ test_chunks s (at + n) ns o
    unfolding test_chunks
    chunks_next n at ns h = rw (le-ltb _ _ h)

    chunks_pass : (ns : List ℕ) (at : ℕ) → at + total ns ≤ length s → test_chunks s at ns o ≡ o
    unfolding test_chunks total
    chunks_pass [] at h = refl
    chunks_pass (n ∷ ns) at h = rw (le-ltb (length s - at) n (omega arith)) (chunks_pass ns (at + n) (omega arith))

    chunks_apart : (ns : List ℕ) (at : ℕ) (l : List ℕ) → at ≤ length s → test_chunks s at ns o ≡ bytes l → (at + total ns ≤ length s) × (o ≡ bytes l)
    unfolding total test_chunks
    chunks_apart [] at l h e = (omega arith, e)
    chunks_apart (n ∷ ns) at l h e =
        split (ltb (length s - at) n)
        (λ t. no_bytes_refused _ _ (rw t at e))
        (λ t.
        let left : n ≤ length s - at = ltb-false _ _ t in
        let r = chunks_apart ns (at + n) l (omega arith) (rw t at e) in
        (omega (arith, r.0), r.1))

    -- the first chunk for which there aren't enough bytes, after those for which there are
    chunks_short : (done : List ℕ) (n : ℕ) (more : List ℕ) (at : ℕ) → at + total done ≤ length s → length s - (at + total done) < n
        → test_chunks s at (done ++ n ∷ more) o ≡ refuse (Cut (at + total done))
    unfolding test_chunks total
    chunks_short [] n more at h l = rw (lt-ltb (length s - at) n (omega arith)) (ap (λ (k : ℕ). refuse (Cut k)) (omega arith))
    chunks_short (d ∷ done) n more at h l =
        rw (le-ltb (length s - at) d (omega arith))
        (chunks_short done n more (at + d) (omega arith) (omega arith) ∙ ap (λ (k : ℕ). refuse (Cut k)) (omega arith))

  chunks_refused : (o q : Output) (r : Refusal) (ns : List ℕ) (at : ℕ) → (o ≡ refuse r → q ≡ refuse r) → test_chunks s at ns o ≡ refuse r
      → test_chunks s at ns q ≡ refuse r
  unfolding test_chunks
  chunks_refused o q r [] at f e = f e
  chunks_refused o q r (n ∷ ns) at f e =
      split (ltb (length s - at) n) (λ t. rw t (rw t at e)) (λ t. rw t (chunks_refused o q r ns (at + n) f (rw t at e)))

module _ (l : List ℕ) where
  within_past : sizes.message < length l → within_size l ≡ refuse (PastSize 0)
  unfolding within_size
  within_past h = rw (lt-ltb _ _ h)

  within : length l ≤ sizes.message → within_size l ≡ bytes l
  unfolding within_size
  within h = rw (le-ltb _ _ h)

  within_apart : (m : List ℕ) → within_size l ≡ bytes m → (l ≡ m) × (length m ≤ sizes.message)
  within_apart m e =
      split (ltb sizes.message (length l))
      (λ t. no_bytes_refused _ _ (sym (within_past (ltb-true _ _ t)) ∙ e))
      (λ t.
      let h : length l ≤ sizes.message = ltb-false _ _ t in
      let q : bytes l ≡ bytes m = sym (within h) ∙ e in
      let same : l ≡ m = cc in
      (same, rw same at h))

-- what is longer than bytes that pass the size passes it too
within_refused : (l m : List ℕ) (r : Refusal) → length l ≤ length m → within_size l ≡ refuse r → within_size m ≡ refuse r
within_refused l m r h e =
    split (ltb sizes.message (length l))
    (λ t.
    let past : sizes.message < length l = ltb-true _ _ t in
    within_past m (omega arith) ∙ sym (within_past l past) ∙ e)
    (λ t. not_refused _ _ (sym (within l (ltb-false _ _ t)) ∙ e))

-- ---- heads and need

module _ (heads need s haves : List ℕ) where
  -- what is written of them
  abbrev lists_bytes : List ℕ
  lists_bytes = hash_list_bytes (hashes_of heads) ++ hash_list_bytes (hashes_of need)

  -- with the first tests
  abbrev pub lists_output : Output
  lists_output = test_haves s haves (test_hashes heads (test_hashes need (bytes lists_bytes)))

  pub lists_bad : passed_good s haves ≡ false → lists_output ≡ refuse BadNumbers
  lists_bad e = haves_bad s haves _ e

  module _ (good : passed_good s haves ≡ true) where
    pub lists_heads : (r : Refusal) → passed_hashes heads ≡ Err r → lists_output ≡ refuse r
    lists_heads r e = haves_pass s haves _ good ∙ hashes_stop heads _ r e

    module _ (h : ℕ) (first : passed_hashes heads ≡ Ok h) where
      pub lists_need : (r : Refusal) → passed_hashes need ≡ Err r → lists_output ≡ refuse r
      lists_need r e = haves_pass s haves _ good ∙ hashes_pass heads _ h first ∙ hashes_stop need _ r e

      pub lists_sized : (n x y : ℕ) → passed_hashes need ≡ Ok n
          → x ≡ length (shortest h) + sizes.hash * h
          → y ≡ length (shortest n) + sizes.hash * n
          → Ok (x + y) ≡ size_of lists_output
      unfolding size_of
      lists_sized n x y e p q =
          let all : lists_output ≡ bytes lists_bytes =
          haves_pass s haves _ good ∙ hashes_pass heads _ h first ∙ hashes_pass need _ n e
          in
          let i : length heads / sizes.hash ≡ h = omega (arith, (passed_is heads h first).whole) in
          let j : length need / sizes.hash ≡ n = omega (arith, (passed_is need n e).whole) in
          rw (all, i, j, length-append) (ap Ok (omega (arith, hash_list_long heads 0 h, hash_list_long need 0 n)))

  -- what stands behind lists that are accepted
  pub record ListsAre (a : ℕ) : Type 0 where
    pub good : passed_good s haves ≡ true
    pub first : passed_hashes heads ≡ Ok (length heads / sizes.hash)
    pub second : passed_hashes need ≡ Ok (length need / sizes.hash)
    pub long : a ≡ length (hash_list_bytes (hashes_of heads)) + length (hash_list_bytes (hashes_of need))

  pub lists_are : (a : ℕ) → size_of lists_output ≡ Ok a → ListsAre a
  lists_are a e =
      let b = size_bytes _ a e in
      let x = haves_apart s haves _ b.list b.is in
      let y = hashes_apart heads _ b.list x.1 in
      let z = hashes_apart need _ b.list y.1 in
      let same : lists_bytes ≡ b.list = cc in
      record {
        good = x.0;
        first = y.0;
        second = z.0;
        long = b.long ∙ ap length (sym same) ∙ length-append (hash_list_bytes (hashes_of heads)) (hash_list_bytes (hashes_of need));
      }

  pub first_small : (a : ℕ) → size_of lists_output ≡ Ok a → a ≤ most_list_lem + most_list_lem
  first_small a e =
      let b = lists_are a e in
      let h : ℕ = length heads / sizes.hash in
      let n : ℕ = length need / sizes.hash in
      let x = (passed_is heads h b.first).few in
      let y = (passed_is need n b.second).few in
      omega (
        arith,
        b.long,
        hash_list_long heads 0 h,
        hash_list_long need 0 n,
        x,
        y,
        ten h (omega (arith, x)),
        ten n (omega (arith, y)),
      )

-- ---- chunks

-- how long the chunks are, with their count
chunks_length : (chunks lengths : List ℕ) → total lengths ≤ length chunks
    → length (counted prefixed_bytes (chunks_from chunks 0 lengths)) ≡ length (shortest (length lengths)) + numbers_total lengths + total lengths
chunks_length chunks lengths h =
    rw (counted_is prefixed_bytes (chunks_from chunks 0 lengths) (length lengths) (chunks_long chunks lengths 0), length-append)
    (omega (arith, chunks_bytes_lem chunks lengths 0 (omega arith)))

module _ (chunks lengths : List ℕ) where
  -- what is written of them
  abbrev chunks_bytes : List ℕ
  chunks_bytes = counted prefixed_bytes (chunks_from chunks 0 lengths)

  -- with the test of each, and that of the size
  abbrev pub cut_output : Output
  cut_output = test_chunks chunks 0 lengths (within_size chunks_bytes)

  -- the chunks before the i-th are whole and end at `end`; their lengths and the count take `numbers` bytes; cutting the rest is cutting all of them
  pub record Cutting (end numbers i : ℕ) : Type 0 where
    pub upto : i ≤ length lengths
    pub inside : end ≤ length chunks
    pub small : numbers ≤ 10 * (i + 1)
    pub ends : end + total (drop i lengths) ≡ total lengths
    pub long : numbers + numbers_total (drop i lengths) ≡ length (shortest (length lengths)) + numbers_total lengths
    pub rest : test_chunks chunks end (drop i lengths) (within_size chunks_bytes) ≡ cut_output

  pub cutting_starts : (x : ℕ) → length lengths ≤ sizes.chunks → x ≡ length (shortest (length lengths)) → Cutting 0 x 0
  cutting_starts x many e =
      record {
        upto = omega arith;
        inside = omega arith;
        small = omega (arith, e, ten (length lengths) (omega (arith, many)));
        ends = omega arith;
        long = ap (λ (k : ℕ). k + numbers_total lengths) e;
        rest = refl;
      }

  module _ (end numbers i : ℕ) (p : Cutting end numbers i) where
    module _ (here : i < length lengths) where
      pub cutting_short : length chunks - end < get_or lengths i 0 → Err (Cut end) ≡ size_of cut_output
      cutting_short l =
          refused_size _ _
          (sym p.rest ∙ rw (drop-cons lengths i 0 here) (chunks_cut chunks (within_size chunks_bytes) (get_or lengths i 0) end (drop (suc i) lengths) l))

      pub cutting_on : (x : ℕ) → get_or lengths i 0 ≤ length chunks - end → x ≡ length (shortest (get_or lengths i 0)) → x ≤ 10
          → Cutting (end + get_or lengths i 0) (numbers + x) (i + 1)
      cutting_on x l e few =
          let o : Output = within_size chunks_bytes in
          let next : test_chunks chunks end (drop i lengths) o ≡ test_chunks chunks (end + get_or lengths i 0) (drop (i + 1) lengths) o =
          rw (drop-cons lengths i 0 here, add-one) (chunks_next chunks o (get_or lengths i 0) end (drop (suc i) lengths) l)
          in
          record {
            upto = omega arith;
            inside = omega (arith, p.inside);
            small = omega (arith, p.small);
            ends = omega (arith, p.ends, total_next lengths i here);
            long = omega (arith, e, p.long, numbers_next lengths i here);
            rest = sym next ∙ p.rest;
          }

    module _ (done : length lengths ≤ i) where
      none_left : drop i lengths ≡ []
      none_left =
          let all : i ≡ length lengths = omega (arith, p.upto) in
          rw all (drop-length lengths)

      -- all are whole, and what is written of them has that size
      cut_long : length chunks_bytes ≡ numbers + end
      unfolding total numbers_total
      cut_long =
          let e : end + total [] ≡ total lengths = rw none_left at p.ends in
          let n : numbers + numbers_total [] ≡ length (shortest (length lengths)) + numbers_total lengths = rw none_left at p.long in
          omega (arith, chunks_length chunks lengths (omega (arith, p.inside)))

      cut_within : cut_output ≡ within_size chunks_bytes
      unfolding test_chunks
      cut_within = sym p.rest ∙ rw none_left

      pub cutting_past : sizes.message < numbers + end → Err (PastSize 0) ≡ size_of cut_output
      cutting_past h = refused_size _ _ (cut_within ∙ within_past chunks_bytes (omega (arith, cut_long)))

      pub cutting_all : numbers + end ≤ sizes.message → Ok (numbers + end) ≡ size_of cut_output
      unfolding size_of
      cutting_all h = rw (cut_within ∙ within chunks_bytes (omega (arith, cut_long))) (ap Ok (sym cut_long))

module _ (haves chunks lengths : List ℕ) where
  -- with the tests before
  abbrev pub chunks_output : Output
  chunks_output = test_few haves lengths (cut_output chunks lengths)

  pub chunks_haves : passed_few haves ≡ false → chunks_output ≡ refuse (PastSize 0)
  chunks_haves e = few_haves_lem haves lengths _ e

  module _ (few : passed_few haves ≡ true) where
    pub chunks_many : sizes.chunks < length lengths → chunks_output ≡ refuse (PastSize 0)
    chunks_many h = few_chunks_lem haves lengths _ few h

    pub chunks_sized : (x : Result ℕ Refusal) → length lengths ≤ sizes.chunks → x ≡ size_of (cut_output chunks lengths) → x ≡ size_of chunks_output
    chunks_sized x many e = e ∙ ap size_of (sym (few_pass haves lengths _ few many))

  -- what stands behind chunks that are accepted
  pub record ChunksAre (b : ℕ) : Type 0 where
    pub few : passed_few haves ≡ true
    pub many : length lengths ≤ sizes.chunks
    pub whole : total lengths ≤ length chunks
    pub small : b ≤ sizes.message
    pub long : b ≡ length (chunks_bytes chunks lengths)

  pub chunks_are : (b : ℕ) → size_of chunks_output ≡ Ok b → ChunksAre b
  chunks_are b e =
      let l = size_bytes _ b e in
      let x = few_apart haves lengths _ l.list l.is in
      let y = chunks_apart chunks _ lengths 0 l.list (omega arith) x.2 in
      let w = within_apart (chunks_bytes chunks lengths) l.list y.1 in
      record {
        few = x.0;
        many = x.1;
        whole = omega (arith, y.0);
        small = omega (arith, l.long, w.1);
        long = l.long ∙ ap length (sym w.0);
      }

-- ---- the whole message

message_long : (m : Message)
    → length (message_bytes m)
    ≡ 1 + length (hash_list_bytes m.heads) + length (hash_list_bytes m.need) + length (counted have_bytes m.haves)
    + length (counted prefixed_bytes m.chunks)
    + length (section_bytes m.flags)
unfolding message_bytes
message_long m = simp length-append (omega arith)

module _ (p : Parts) where
  message_lists : (r : Refusal) → lists_output p.heads p.need p.bytes p.haves ≡ refuse r → message_output p ≡ refuse r
  unfolding message_output
  message_lists r e =
      haves_refused p.bytes p.haves _ _ r
      (hashes_refused p.heads _ _ r (hashes_refused p.need _ _ r (λ d. not_refused _ _ d)))
      e

  -- the tests that follow those of the lists
  abbrev rest : Output
  rest = test_few p.haves p.lengths (test_chunks p.chunks 0 p.lengths (within_size (message_bytes (message_of p))))

  module _ (good : passed_good p.bytes p.haves ≡ true) (h n : ℕ) (first : passed_hashes p.heads ≡ Ok h)
      (second : passed_hashes p.need ≡ Ok n) where
    message_rest : message_output p ≡ rest
    unfolding message_output
    message_rest = haves_pass p.bytes p.haves _ good ∙ hashes_pass p.heads _ h first ∙ hashes_pass p.need _ n second

    message_chunks : (r : Refusal) → chunks_output p.haves p.chunks p.lengths ≡ refuse r → message_output p ≡ refuse r
    message_chunks r e =
        message_rest
        ∙ few_refused p.haves p.lengths _ _ r
        (chunks_refused p.chunks _ _ r p.lengths 0
        (within_refused (chunks_bytes p.chunks p.lengths) (message_bytes (message_of p)) r (omega (arith, message_long (message_of p)))))
        e

    message_within : passed_few p.haves ≡ true → length p.lengths ≤ sizes.chunks → total p.lengths ≤ length p.chunks
        → message_output p ≡ within_size (message_bytes (message_of p))
    message_within few many whole =
        message_rest ∙ few_pass p.haves p.lengths _ few many ∙ chunks_pass p.chunks _ p.lengths 0 (omega (arith, whole))

-- ---- the size of a message

pub sized_haves : (heads need s haves chunks lengths : List ℕ) (a b : ℕ) → size_of (lists_output heads need s haves) ≡ Ok a
    → size_of (chunks_output haves chunks lengths) ≡ Ok b → GoodHaves s haves
sized_haves heads need s haves chunks lengths a b e f =
    record { good = (lists_are heads need s haves a e).good; few = (chunks_are haves chunks lengths b f).few }

pub middle_small : (s haves : List ℕ) (x : ℕ) → GoodHaves s haves → x ≡ length (counted have_bytes (haves_of s haves)) → x ≤ most_haves
middle_small s haves x g e = omega (arith, haves_small s haves g)

pub section_small : (flags : Option MessageFlags) (y : ℕ) → y ≡ length (section_bytes flags) → y ≤ 3
unfolding section_bytes
section_small None y e = omega arith
section_small (Some f) y e = omega arith

module _ (heads need s haves chunks lengths : List ℕ) (flags : Option MessageFlags) where
  pub sized_lists : (r : Refusal) → size_of (lists_output heads need s haves) ≡ Err r
      → (v : MessageVersion) → Err r ≡ size_of (message_output (parts_of v heads need s haves chunks lengths flags))
  sized_lists r e v = refused_size _ r (message_lists (parts_of v heads need s haves chunks lengths flags) r (size_refused _ r e))

  module _ (a : ℕ) (first : size_of (lists_output heads need s haves) ≡ Ok a) where
    pub sized_chunks : (r : Refusal) → size_of (chunks_output haves chunks lengths) ≡ Err r
        → (v : MessageVersion) → Err r ≡ size_of (message_output (parts_of v heads need s haves chunks lengths flags))
    sized_chunks r e v =
        let l = lists_are heads need s haves a first in
        refused_size _ r
        (message_chunks (parts_of v heads need s haves chunks lengths flags) l.good _ _ l.first l.second r (size_refused _ r e))

    module _ (b : ℕ) (last : size_of (chunks_output haves chunks lengths) ≡ Ok b) where
      module _ (x y : ℕ) (middle : x ≡ length (counted have_bytes (haves_of s haves))) (section : y ≡ length (section_bytes flags)) where
        pub sized_past : sizes.message < 1 + a + x + b + y
            → (v : MessageVersion) → Err (PastSize 0) ≡ size_of (message_output (parts_of v heads need s haves chunks lengths flags))
        sized_past h v =
            let l = lists_are heads need s haves a first in
            let c = chunks_are haves chunks lengths b last in
            let p = parts_of v heads need s haves chunks lengths flags in
            refused_size _ _
            (message_within p l.good _ _ l.first l.second c.few c.many c.whole
            ∙ within_past _ (omega (arith, message_long (message_of p), l.long, c.long, middle, section)))

        pub sized_all : 1 + a + x + b + y ≤ sizes.message
            → (v : MessageVersion) → Ok (1 + a + x + b + y) ≡ size_of (message_output (parts_of v heads need s haves chunks lengths flags))
        unfolding size_of
        sized_all h v =
            let l = lists_are heads need s haves a first in
            let c = chunks_are haves chunks lengths b last in
            let p = parts_of v heads need s haves chunks lengths flags in
            let long = message_long (message_of p) in
            let all =
            message_within p l.good _ _ l.first l.second c.few c.many c.whole
            ∙ within _ (omega (arith, long, l.long, c.long, middle, section))
            in
            rw all (ap Ok (omega (arith, long, l.long, c.long, middle, section)))

-- ---- what was written

-- Parts that pass every test but that of the message's size.
pub record PartsAccepted (p : Parts) : Type 0 where
  pub haves : GoodHaves p.bytes p.haves
  pub heads : passed_hashes p.heads ≡ Ok (length p.heads / sizes.hash)
  pub need : passed_hashes p.need ≡ Ok (length p.need / sizes.hash)
  pub few : length p.lengths ≤ sizes.chunks
  pub whole : total p.lengths ≤ length p.chunks

-- The message that the parts are, within its size, from parts that passed every test.
pub record WrittenMessage (p : Parts) (l : List ℕ) : Type 0 where
  pub accepted : PartsAccepted p
  pub is : l ≡ message_bytes (message_of p)
  pub small : length l ≤ sizes.message

pub message_written : (p : Parts) (l : List ℕ) → message_output p ≡ bytes l → WrittenMessage p l
unfolding message_output
message_written p l e =
    let a = haves_apart p.bytes p.haves _ l e in
    let b = hashes_apart p.heads _ l a.1 in
    let c = hashes_apart p.need _ l b.1 in
    let d = few_apart p.haves p.lengths _ l c.1 in
    let f = chunks_apart p.chunks _ p.lengths 0 l (omega arith) d.2 in
    let w = within_apart _ l f.1 in
    record {
      accepted =
          record {
            haves = record { good = a.0; few = d.0 };
            heads = b.0;
            need = c.0;
            few = d.1;
            whole = omega (arith, f.0);
          };
      is = sym w.0;
      small = w.1;
    }

-- The way back: parts that pass every test and whose message is within its size are written.
pub accepted_written : (p : Parts) → PartsAccepted p → length (message_bytes (message_of p)) ≤ sizes.message → message_output p ≡ bytes (message_bytes (message_of p))
accepted_written p a small =
    message_within p a.haves.good _ _ a.heads a.need a.haves.few a.few a.whole ∙ within _ small

-- what the code knows once it has the size
pub record Ready (p : Parts) (size : ℕ) : Type 0 where
  pub output : message_output p ≡ bytes (message_bytes (message_of p))
  pub long : size ≡ length (message_bytes (message_of p))

pub ready : (p : Parts) (size : ℕ) → size_of (message_output p) ≡ Ok size → Ready p size
ready p size e =
    let b = size_bytes (message_output p) size e in
    let w = message_written p b.list b.is in
    record { output = b.is ∙ ap bytes w.is; long = b.long ∙ ap length w.is }

module _ (p : Parts) (size : ℕ) (e : size_of (message_output p) ≡ Ok size) (before : List ℕ) where
  pub written_short : length before < size → Written (message_output p) before before (Err (NoRoom size))
  written_short h = let r = ready p size e in rw r.output (no_room _ _ _ r.long h)

  pub written_all : (after : List ℕ) → size ≤ length before → after ≡ sets before 0 (message_bytes (message_of p))
      → Written (message_output p) before after (Ok size)
  written_all after h q = let r = ready p size e in rw r.output (written_bytes _ _ _ _ r.long h q)

pub written_refused : (p : Parts) (r : Refusal) (before : List ℕ) → size_of (message_output p) ≡ Err r
    → Written (message_output p) before before (Err r)
written_refused p r before e = rw (size_refused _ r e) (refused r before)

-- ---- the order of refusals: each law has the tests that come before as its premises

module _ (p : Parts) where
  pub refuses_haves : passed_good p.bytes p.haves ≡ false → message_output p ≡ refuse BadNumbers
  unfolding message_output
  refuses_haves e = haves_bad p.bytes p.haves _ e

  module _ (good : passed_good p.bytes p.haves ≡ true) where
    pub refuses_heads : (r : Refusal) → passed_hashes p.heads ≡ Err r → message_output p ≡ refuse r
    unfolding message_output
    refuses_heads r e = haves_pass p.bytes p.haves _ good ∙ hashes_stop p.heads _ r e

    module _ (h : ℕ) (first : passed_hashes p.heads ≡ Ok h) where
      pub refuses_need : (r : Refusal) → passed_hashes p.need ≡ Err r → message_output p ≡ refuse r
      unfolding message_output
      refuses_need r e = haves_pass p.bytes p.haves _ good ∙ hashes_pass p.heads _ h first ∙ hashes_stop p.need _ r e

      module _ (n : ℕ) (second : passed_hashes p.need ≡ Ok n) where
        pub refuses_many_haves : passed_few p.haves ≡ false → message_output p ≡ refuse (PastSize 0)
        refuses_many_haves e = message_rest p good h n first second ∙ few_haves_lem p.haves p.lengths _ e

        module _ (few : passed_few p.haves ≡ true) where
          pub refuses_many_chunks : sizes.chunks < length p.lengths → message_output p ≡ refuse (PastSize 0)
          refuses_many_chunks e = message_rest p good h n first second ∙ few_chunks_lem p.haves p.lengths _ few e

          pub refuses_cut_chunk : (done : List ℕ) (short : ℕ) (more : List ℕ) → length p.lengths ≤ sizes.chunks
              → p.lengths ≡ done ++ short ∷ more
              → total done ≤ length p.chunks
              → length p.chunks - total done < short
              → message_output p ≡ refuse (Cut (total done))
          refuses_cut_chunk done short more many are whole cut =
              let o : Output = within_size (message_bytes (message_of p)) in
              message_rest p good h n first second
              ∙ few_pass p.haves p.lengths _ few many
              ∙ ap (λ (ns : List ℕ). test_chunks p.chunks 0 ns o) are
              ∙ chunks_short p.chunks o done short more 0 (omega (arith, whole)) (omega (arith, cut))
              ∙ ap (λ (k : ℕ). refuse (Cut k)) (omega arith)
