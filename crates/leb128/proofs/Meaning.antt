-- `find` is what `Means` says, and reading and writing numbers undo one another. A byte of 128 or more takes seven bits off the number and one byte
-- off its shortest form, so each law goes byte by byte: `find` takes a shortest form whole, asks for more before its end, and takes nothing else.
-- What no ending makes good is then what `find` neither takes nor asks more of.
use Prim.Native.Nat.{ℕ, zero, suc, ◌+◌, ◌-◌, ◌*◌, ◌/◌, ◌%◌, ◌≤◌, ◌<◌}
use mathlib.Core.List.{List, [], ◌∷◌, ◌++◌, append-nil}
use mathlib.Core.Path.{◌≡◌, refl, sym, ◌∙◌, ap, ap₂}
use native.Mathlib.Omega.{arith}
use borrow.Author.Tests.{ltb-true, ltb-false}
use lib.Dec.{ltb}
use lib.ListN.{length, length-append, length-take, length-drop}
use lib.Seq.{slice}
use Rattle.rules.proofs.ByteLaws.{bytes_none, bytes_cons}
use Rattle.rules.specs.Hash.{Bytes}
use Rattle.rules.proofs.Cases.{split, read_same}
use Rattle.rules.proofs.Hash.{bytes_head, bytes_tail, bytes_slice, slice_parts}
use Rattle.leb128.specs.Number.{shortest, Found, ends, cut, bad, Means, good, short, hopeless, go_on, find, answer_at, number_at}
use Rattle.leb128.proofs.Number.{shortest_one, shortest_more, find_low, find_high, find_end, find_more}
use Rattle.std.specs.Prelude.{Ok}

-- ---- the shortest form, byte by byte

-- Induction on a number and its shortest form.
each_seven : (P : ℕ → List ℕ → Type 0)
    → ((n : ℕ) → n < 128 → P n (n ∷ []))
    → ((n : ℕ) (l : List ℕ) → 128 ≤ n → P (n / 128) l → P n ((n % 128 + 128) ∷ l))
    → (n : ℕ) → P n (shortest n)
each_seven P last more n = go n n (omega arith)
  where
    go : (k n : ℕ) → n ≤ k → P n (shortest n)
    go zero n h =
        let l : n < 128 = omega arith in
        rw (shortest_one n l) (last n l)
    go (suc k) n h =
        split (ltb n 128)
        (λ e. let l : n < 128 = ltb-true _ _ e in rw (shortest_one n l) (last n l))
        (λ e. let l : 128 ≤ n = ltb-false _ _ e in rw (shortest_more n l) (more n (shortest (n / 128)) l (go k (n / 128) (omega arith))))

pub shortest_bytes : (n : ℕ) → Bytes (shortest n)
shortest_bytes =
    each_seven (λ n l. Bytes l)
    (λ n h. bytes_cons n [] (omega arith) bytes_none)
    (λ n l h t. bytes_cons (n % 128 + 128) l (omega arith) t)

-- A byte that goes on, put before a shortest form.
shortest_on : (b n : ℕ) → 128 ≤ b → b < 256 → 1 ≤ n → shortest (b - 128 + 128 * n) ≡ b ∷ shortest n
shortest_on b n h g l =
    let m : ℕ = b - 128 + 128 * n in
    shortest_more m (omega arith) ∙ ap₂ (λ (x y : ℕ). x ∷ shortest y) (omega arith) (omega arith)

-- ---- what `find` makes of a shortest form

-- What `find` makes of a shortest form's first byte, where others follow.
find_on : (least most n : ℕ) (bs : List ℕ) → least ≤ 1 → n ≤ most → 128 ≤ n
    → find least most ((n % 128 + 128) ∷ bs) ≡ go_on (n % 128) (find 1 ((most - n % 128) / 128) bs)
find_on least most n bs low to h =
    let e : n % 128 + 128 - 128 ≡ n % 128 = omega arith in
    rw e at (find_more least most (n % 128 + 128) bs (omega arith) (omega arith) (omega arith))

find_shortest : (rest : List ℕ) (n least most : ℕ) → least ≤ 1 → least ≤ n → n ≤ most
    → find least most (shortest n ++ rest) ≡ ends n (length (shortest n))
unfolding go_on
find_shortest rest =
    each_seven
    (λ n l. (least most : ℕ) → least ≤ 1 → least ≤ n → n ≤ most → find least most (l ++ rest) ≡ ends n (length l))
    (λ n h least most low from to. find_end least most n rest from to h)
    (λ n l h more least most low from to.
    rw (find_on least most n (l ++ rest) low to h, more 1 ((most - n % 128) / 128) (omega arith) (omega arith) (omega arith))
    (ap (λ (m : ℕ). ends m (suc (length l))) (omega arith)))

find_proper : (bytes : List ℕ) (b : ℕ) (rest : List ℕ) (n least most : ℕ) → least ≤ 1 → least ≤ n → n ≤ most
    → bytes ++ b ∷ rest ≡ shortest n
    → find least most bytes ≡ cut
unfolding find go_on
find_proper [] b rest n least most low from to same = refl
find_proper (x ∷ xs) b rest n least most low from to same =
    split (ltb n 128)
    (λ e.
    let s = same ∙ shortest_one n (ltb-true _ _ e) in
    absurd (omega (arith, length-append xs (b ∷ rest), ap length s)))
    (λ e.
    let h : 128 ≤ n = ltb-false _ _ e in
    let s = same ∙ shortest_more n h in
    let first : x ≡ n % 128 + 128 = cc in
    let others : xs ++ b ∷ rest ≡ shortest (n / 128) = cc in
    rw (
      first,
      find_on least most n xs low to h,
      find_proper xs b rest (n / 128) 1 ((most - n % 128) / 128) (omega arith) (omega arith) (omega arith) others,
    ))

-- ---- what bytes are of which `find` makes something

-- The three cases of a first byte.
one_byte : (P : Found → Type 0) (least most b : ℕ) (bs : List ℕ)
    → P bad
    → (least ≤ b → b ≤ most → b < 128 → P (ends b 1))
    → (least ≤ b → b ≤ most → 128 ≤ b → P (go_on (b - 128) (find 1 ((most - (b - 128)) / 128) bs)))
    → P (find least most (b ∷ bs))
one_byte P least most b bs none last more =
    split (ltb b least)
    (λ e. rw (find_low least most b bs (ltb-true _ _ e)) none)
    (λ e.
    let h : least ≤ b = ltb-false _ _ e in
    split (ltb most b)
    (λ d. rw (find_high least most b bs h (ltb-true _ _ d)) none)
    (λ d.
    let g : b ≤ most = ltb-false _ _ d in
    split (ltb b 128)
    (λ c. let l : b < 128 = ltb-true _ _ c in rw (find_end least most b bs h g l) (last h g l))
    (λ c. let l : 128 ≤ b = ltb-false _ _ c in rw (find_more least most b bs h g l) (more h g l))))

-- At least one byte is taken, and no more than there are.
abbrev TakenWithin : List ℕ → Found → Type 0
TakenWithin bytes (ends n size) = (0 < size) × (size ≤ length bytes)
TakenWithin bytes cut = Unit {0}
TakenWithin bytes bad = Unit {0}

within_more : (low b : ℕ) (bs : List ℕ) (f : Found) → TakenWithin bs f → TakenWithin (b ∷ bs) (go_on low f)
unfolding go_on
within_more low b bs (ends n size) h = omega arith
within_more low b bs cut h = tt
within_more low b bs bad h = tt

within : (bytes : List ℕ) (least most : ℕ) → TakenWithin bytes (find least most bytes)
unfolding find
within [] least most = tt
within (b ∷ bs) least most =
    one_byte (TakenWithin (b ∷ bs)) least most b bs tt
    (λ h g l. omega arith)
    (λ h g l. within_more (b - 128) b bs (find 1 ((most - (b - 128)) / 128) bs) (within bs 1 ((most - (b - 128)) / 128)))

-- What is taken is a shortest form, and what more is asked of begins one.
abbrev Shows : ℕ → ℕ → List ℕ → Found → Type 0
Shows least most bytes (ends n size) =
    record { rest : List ℕ; from : least ≤ n; to : n ≤ most; long : size ≡ length (shortest n); same : bytes ≡ shortest n ++ rest }
Shows least most bytes cut =
    record { n : ℕ; b : ℕ; rest : List ℕ; from : least ≤ n; to : n ≤ most; same : bytes ++ b ∷ rest ≡ shortest n }
Shows least most bytes bad = Unit {0}

module _ (least most b : ℕ) (bs : List ℕ) (low : least ≤ 1) (room : b ≤ most) (on : 128 ≤ b) (byte : b < 256) where
  shows_more : (f : Found) → Shows 1 ((most - (b - 128)) / 128) bs f → Shows least most (b ∷ bs) (go_on (b - 128) f)
  unfolding go_on
  shows_more (ends n size) h =
      let e = shortest_on b n on byte h.from in
      record {
        rest = h.rest;
        from = omega arith;
        to = omega arith;
        long = rw e (ap suc h.long);
        same = rw e (ap (λ (l : List ℕ). b ∷ l) h.same);
      }
  shows_more cut h =
      let e = shortest_on b h.n on byte h.from in
      record {
        n = b - 128 + 128 * h.n;
        b = h.b;
        rest = h.rest;
        from = omega arith;
        to = omega arith;
        same = rw e (ap (λ (l : List ℕ). b ∷ l) h.same);
      }
  shows_more bad h = tt

shown : (bytes : List ℕ) (least most : ℕ) → Bytes bytes → least ≤ 1 → least ≤ most → Shows least most bytes (find least most bytes)
unfolding find
shown [] least most all low room =
    record { n = least; b = least; rest = []; from = omega arith; to = room; same = sym (shortest_one least (omega arith)) }
shown (b ∷ bs) least most all low room =
    one_byte (Shows least most (b ∷ bs)) least most b bs tt
    (λ h g l.
    let e = shortest_one b l in
    record { rest = bs; from = h; to = g; long = rw e; same = rw e })
    (λ h g l.
    let left : ℕ = (most - (b - 128)) / 128 in
    let rest = shown bs 1 left (bytes_tail b bs all) (omega arith) (omega arith) in
    shows_more least most b bs low g l (bytes_head b bs all) (find 1 left bs) rest)

-- ---- `find` and `Means`

module _ (most : ℕ) (bytes : List ℕ) where
  good_found : (n : ℕ) (rest : List ℕ) → n ≤ most → bytes ≡ shortest n ++ rest → find 0 most bytes ≡ ends n (length (shortest n))
  good_found n rest h same = rw same (find_shortest rest n 0 most (omega arith) (omega arith) h)

  short_found : (n b : ℕ) (rest : List ℕ) → n ≤ most → bytes ++ b ∷ rest ≡ shortest n → find 0 most bytes ≡ cut
  short_found n b rest h same = find_proper bytes b rest n 0 most (omega arith) (omega arith) h same

  bad_hopeless : find 0 most bytes ≡ bad → Means most bytes bad
  bad_hopeless e = hopeless no_good no_ending
    where
      no_good : (n : ℕ) (rest : List ℕ) → n ≤ most → bytes ≡ shortest n ++ rest → ⊥
      no_good n rest h same =
          let f = good_found n rest h same in
          let z : ◌≡◌ {A = ℕ} 0 1 = cc in
          omega arith

      no_ending : (n : ℕ) (ending : List ℕ) → n ≤ most → bytes ++ ending ≡ shortest n → ⊥
      no_ending n [] h same = no_good n [] h (cc (append-nil bytes, append-nil (shortest n)))
      no_ending n (b ∷ rest) h same =
          let f = short_found n b rest h same in
          let z : ◌≡◌ {A = ℕ} 0 1 = cc in
          omega arith

  module _ (all : Bytes bytes) where
    pub found_means : Means most bytes (find 0 most bytes)
    found_means = go (find 0 most bytes) refl (shown bytes 0 most all (omega arith) (omega arith))
      where
        go : (f : Found) → find 0 most bytes ≡ f → Shows 0 most bytes f → Means most bytes f
        go (ends n size) e h = rw h.long (good n h.rest h.to h.same)
        go cut e h = short h.n h.b h.rest h.to h.same
        go bad e h = bad_hopeless e

    pub means_found : (f : Found) → Means most bytes f → find 0 most bytes ≡ f
    means_found _ (good n rest h same) = good_found n rest h same
    means_found _ (short n b rest h same) = short_found n b rest h same
    means_found _ (hopeless no_good no_ending) = go (find 0 most bytes) found_means
      where
        go : (f : Found) → Means most bytes f → f ≡ bad
        go _ (good n rest h same) = absurd (no_good n rest h same)
        go _ (short n b rest h same) = absurd (no_ending n (b ∷ rest) h same)
        go _ (hopeless x y) = refl

    pub means_once : (f g : Found) → Means most bytes f → Means most bytes g → f ≡ g
    means_once f g h k = sym (means_found f h) ∙ means_found g k

-- ---- numbers at a place

-- A number ends after its place, in the part and in the bytes.
pub record EndsInside (s : List ℕ) (at end next : ℕ) : Type 0 where
  pub after : at < next
  pub up_to : next ≤ end
  pub there : next ≤ length s

module _ (most : ℕ) (s : List ℕ) (at end n : ℕ) where
  pub number_written : (rest : List ℕ) → n ≤ most → slice at end s ≡ shortest n ++ rest → number_at most s at end ≡ Ok (n, at + length (shortest n))
  unfolding number_at answer_at
  number_written rest h same = rw (good_found most (slice at end s) n rest h same)

  module _ (next : ℕ) (read : number_at most s at end ≡ Ok (n, next)) where
    number_found : (size : ℕ) × (find 0 most (slice at end s) ≡ ends n size) × (next ≡ at + size)
    unfolding number_at answer_at
    number_found = go (find 0 most (slice at end s)) refl read
      where
        go : (f : Found) → find 0 most (slice at end s) ≡ f → answer_at at f ≡ Ok (n, next)
            → (size : ℕ) × (find 0 most (slice at end s) ≡ ends n size) × (next ≡ at + size)
        go (ends m size) e r = let q = read_same r in (size, cc (q.0), sym q.1)
        go cut e r = absurd (let z : ◌≡◌ {A = ℕ} 0 1 = cc in omega arith)
        go bad e r = absurd (let z : ◌≡◌ {A = ℕ} 0 1 = cc in omega arith)

    pub number_inside : EndsInside s at end next
    number_inside =
        let w = rw number_found.1 at (within (slice at end s) 0 most) in
        let l = simp (length-drop, length-take) at w.1 in
        omega (arith, number_found.2)

  module _ (next : ℕ) (all : Bytes s) (read : number_at most s at end ≡ Ok (n, next)) where
    number_shows : Shows 0 most (slice at end s) (ends n (number_found next read).0)
    number_shows = rw (number_found next read).1 at (shown (slice at end s) 0 most (bytes_slice s at end all) (omega arith) (omega arith))

    pub number_most : n ≤ most
    number_most = number_shows.to

    pub written_number : slice at next s ≡ shortest n
    written_number =
        let size : ℕ = (number_found next read).0 in
        let e : next ≡ at + size = (number_found next read).2 in
        let u : next ≤ end = (number_inside next read).up_to in
        rw e (slice_parts size at end s (shortest n) number_shows.rest (omega arith) (sym number_shows.long) number_shows.same).0
