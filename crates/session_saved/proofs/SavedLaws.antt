-- Saved states: what each test decides, what is written and read then, and that reading what was written gives it back.
use Prim.Native.Nat.{ℕ, ◌+◌, ◌-◌, ◌*◌, ◌≤◌, ◌<◌}
use mathlib.Core.Bool.{true, false}
use mathlib.Core.List.{List, ◌∷◌, ◌++◌, append_assoc}
use mathlib.Core.Path.{◌≡◌, refl, sym, ◌∙◌, ap}
use native.Mathlib.Nat.{zero-add}
use native.Mathlib.Omega.{arith}
use borrow.Author.Tests.{lt-ltb, le-ltb, eq-eqb, ne_eqb, eqb-true, eqb-false}
use lib.Dec.{eqb}
use lib.ListN.{length, get_or, set, take, drop, length-append}
use lib.Seq.{slice, sets, sets-eq, take_all, take_at, length-slice, length-take-le}
use Rattle.session_check.specs.SessionGood.{list_good}
use Rattle.session_check.proofs.GoodSessions.{list_parts}
use Rattle.rules.specs.Hash.{Bytes, AreHashes, hashes_at, hashes_bytes}
use Rattle.rules.specs.Output.{bytes, refuse, Written}
use Rattle.rules.specs.Sizes.{sizes}
use Rattle.rules.specs.declared.refusal.Refusal.{Refusal}
use Rattle.rules.specs.declared.refusal.Refusal.TheVariants.{Cut, WrongType, NoRoom, BadNumbers}
use Rattle.rules.proofs.Cases.{split}
use Rattle.rules.proofs.Hash.{take_drop, slice_parts, length_hashes_at, length_hashes_bytes, hashes_are_hashes, hashes_at_bytes, hashes_there_and_back}
use Rattle.rules.proofs.Outputs.{written_bytes, no_room}
use Rattle.wire.specs.Item.{run, hash_list_bytes, hash_list_at}
use Rattle.leb128.specs.Number.{shortest, Put}
use Rattle.wire.proofs.Item.{HashesInside, hash_list_inside, hash_list_written}
use Rattle.leb128.proofs.Number.{put_then}
use Rattle.session_state.specs.Counts.{restored_counts}
use Rattle.session_state.specs.Session.{restored}
use Rattle.session_state.specs.Value.{Lent, state_of}
use Rattle.session_state.specs.declared.session.Session.{Session as Counts}
use Rattle.session_state.proofs.ValueLaws.{restored_value}
use Rattle.session_saved.specs.Saved.{state_type, state_output, state_at, saved_with, loaded_into, Restored}
use Rattle.std.specs.Prelude.{Result, Ok, Err}
use Rattle.session_state.specs.declared.session.Session.{Session}

-- ---- writing

-- the bytes of a saved state, the hashes as they stand in the buffer
unfoldable pub state_bytes : List ℕ → ℕ → List ℕ
state_bytes s count = state_type ∷ (shortest count ++ take (sizes.hash * count) s)

module _ (s : List ℕ) (count : ℕ) where
  -- the hashes of a list, as bytes
  pub prefix_long : list_good s count ≡ true → sizes.hash * count ≡ length (take (sizes.hash * count) s)
  prefix_long e = sym (length-take-le _ _ (list_parts s count e).there)

  pub state_bad : list_good s count ≡ false → state_output s count ≡ refuse BadNumbers
  unfolding state_output
  state_bad e = rw e

  pub state_good : Bytes s → list_good s count ≡ true → state_output s count ≡ bytes (state_bytes s count)
  unfolding state_output state_bytes hash_list_bytes
  state_good all e =
      let fits : 0 + sizes.hash * count ≤ length s = omega (arith, (list_parts s count e).there) in
      rw (e, length_hashes_at s 0 count, hashes_at_bytes s 0 count all fits, zero-add)

  pub state_length : list_good s count ≡ true → (x : ℕ) → x ≡ length (shortest count) → 1 + x + sizes.hash * count ≡ length (state_bytes s count)
  unfolding state_bytes
  state_length e x d = rw length-append (omega (arith, prefix_long e))

  pub state_no_room : Bytes s → list_good s count ≡ true → (x : ℕ) → x ≡ length (shortest count) → (before : List ℕ) → length before < 1 + x + sizes.hash * count
      → Written (state_output s count) before before (Err (NoRoom (1 + x + sizes.hash * count)))
  state_no_room all e x d before h = rw (state_good all e) (no_room _ _ _ (state_length e x d) h)

  pub state_written : Bytes s → list_good s count ≡ true → (x : ℕ) → x ≡ length (shortest count)
      → (before mid after : List ℕ) (next : ℕ)
      → 1 + x + sizes.hash * count ≤ length before
      → Put (set before 0 state_type) mid 1 (shortest count) next
      → after ≡ sets mid next (take (sizes.hash * count) s)
      → Written (state_output s count) before after (Ok (1 + x + sizes.hash * count))
  unfolding state_bytes
  state_written all e x d before mid after next h p q =
      rw (state_good all e)
      (written_bytes _ _ _ _ (state_length e x d) h
      (q ∙ put_then (set before 0 state_type) mid (take (sizes.hash * count) s) 1 next (shortest count) p))

-- ---- reading

module _ (s : List ℕ) where
  pub state_empty : length s ≡ 0 → state_at s ≡ Err (Cut 0)
  unfolding state_at
  state_empty e = rw (eq-eqb (length s) 0 e)

  module _ (some : length s ≡ 0 → ⊥) where
    pub state_other : (get_or s 0 0 ≡ state_type → ⊥) → state_at s ≡ Err (WrongType (get_or s 0 0))
    unfolding state_at
    state_other f = rw (ne_eqb (length s) 0 some, ne_eqb (get_or s 0 0) state_type f)

    pub state_list : get_or s 0 0 ≡ state_type → state_at s ≡ hash_list_at s 1 (length s)
    unfolding state_at
    state_list e = rw (ne_eqb (length s) 0 some, eq-eqb (get_or s 0 0) state_type e)

  -- where the shared heads of a state stand
  pub state_inside : (start count next : ℕ) → state_at s ≡ Ok (run start count, next) → HashesInside s 1 (length s) (run start count) next
  state_inside start count next e =
      split (eqb (length s) 0)
      (λ t. absurd (let z : ◌≡◌ {A = ℕ} 0 1 = cc (state_empty (eqb-true _ _ t)) in omega arith))
      (λ t.
      let some : length s ≡ 0 → ⊥ = eqb-false _ _ t in
      split (eqb (get_or s 0 0) state_type)
      (λ u. hash_list_inside s 1 (length s) (run start count) next (sym (state_list some (eqb-true _ _ u)) ∙ e))
      (λ u. absurd (let z : ◌≡◌ {A = ℕ} 0 1 = cc (state_other some (eqb-false _ _ u)) in omega arith)))

module _ (s before : List ℕ) where
  pub load_refused : (r : Refusal) → state_at s ≡ Err r → Restored s before before (Err r)
  unfolding saved_with loaded_into
  load_refused r e = record { answer = rw e; content = rw e }

  module _ (start count next : ℕ) (is : state_at s ≡ Ok (run start count, next)) where
    pub load_short : length before < sizes.hash * count → Restored s before before (Err (NoRoom (sizes.hash * count)))
    unfolding saved_with loaded_into
    load_short h = record { answer = rw (is, lt-ltb _ _ h); content = rw (is, lt-ltb _ _ h) }

    pub part_is : take (next - start) (drop start s) ≡ slice start next s
    part_is =
        let w = state_inside s start count next is in
        let e : start + (next - start) ≡ next = omega (arith, w.whole) in
        rw (take_drop (next - start) start s, e)

    pub part_long : length (take (next - start) (drop start s)) ≡ sizes.hash * count
    part_long =
        let w = state_inside s start count next is in
        rw (part_is, length-slice start next s w.there) (omega (arith, w.whole))

    pub load_session : (after : List ℕ) → sizes.hash * count ≤ length before → after ≡ sets before 0 (take (next - start) (drop start s))
        → (session : Counts)
        → session ≡ restored_counts count
        → Restored s before after (Ok session)
    unfolding saved_with loaded_into
    load_session after h q session e = record { answer = rw (is, le-ltb _ _ h) (ap Ok e); content = rw (is, le-ltb _ _ h, ← part_is) q }

state_out : (s : List ℕ) (count : ℕ) → list_good s count ≡ true → state_output s count ≡ bytes (state_type ∷ hash_list_bytes (hashes_at s 0 count))
unfolding state_output
state_out s count e = rw e

loaded : (before s after : List ℕ) (start count next : ℕ) (r : Result Session Refusal) → sizes.hash * count ≤ length before → state_at s ≡ Ok (run start count, next)
    → Restored s before after r
    → (r ≡ Ok (restored_counts count)) × (after ≡ sets before 0 (slice start next s))
unfolding saved_with loaded_into
loaded before s after start count next r h e l = (rw (e, le-ltb _ _ h) at l.answer, rw (e, le-ltb _ _ h) at l.content)

-- ---- the laws

-- A saved state is read in one way.
pub restored_once : {s before a₁ a₂ : List ℕ} {r₁ r₂ : Result Session Refusal} → Restored s before a₁ r₁ → Restored s before a₂ r₂ → (r₁ ≡ r₂) × (a₁ ≡ a₂)
restored_once w v = (w.answer ∙ sym v.answer, w.content ∙ sym v.content)

-- Reading what was written, whatever follows it, gives the shared heads back: as many, and the same.
pub state_written_read : (s rest : List ℕ) (count : ℕ) → list_good s count ≡ true → AreHashes (hashes_at s 0 count)
    → let t = state_type ∷ (hash_list_bytes (hashes_at s 0 count) ++ rest) in
    let start = 1 + length (shortest count) in
    (state_at t ≡ Ok (run start count, 1 + length (hash_list_bytes (hashes_at s 0 count)))) × (hashes_at t start count ≡ hashes_at s 0 count)
state_written_read s rest count good are =
    let hs : List ℕ = hashes_at s 0 count in
    let t : List ℕ = state_type ∷ (hash_list_bytes hs ++ rest) in
    let long : length hs ≡ count = length_hashes_at s 0 count in
    let small : length hs ≤ sizes.hashes = omega (arith, (list_parts s count good).few) in
    let same : slice 1 (length t) t ≡ hash_list_bytes hs ++ rest = ap (drop 1) (take_all (length t) t (omega arith)) in
    let w = hash_list_written t hs rest 1 (length t) are small same in
    let is : state_at t ≡ hash_list_at t 1 (length t) = state_list t (omega arith) refl in
    (is ∙ rw long at w.0, rw long at w.1)

-- the hashes' bytes stand behind type byte and count
heads_stand : (hs rest : List ℕ) (count next : ℕ) → length hs ≡ count → next ≡ 1 + length (shortest count) + sizes.hash * count
    → slice (1 + length (shortest count)) next (state_type ∷ (hash_list_bytes hs ++ rest)) ≡ hashes_bytes hs
unfolding hash_list_bytes
heads_stand hs rest count next many ends =
    let n : List ℕ = shortest (length hs) in
    let b : List ℕ = hashes_bytes hs in
    let t : List ℕ = state_type ∷ ((n ++ b) ++ rest) in
    let long : length b ≡ sizes.hash * length hs = length_hashes_bytes hs in
    let all : length t ≡ 1 + length n + sizes.hash * length hs + length rest = rw (length-append (n ++ b) rest, length-append n b) (omega arith) in
    let same : slice 1 (length t) t ≡ n ++ (b ++ rest) = ap (drop 1) (take_all (length t) t (omega arith)) ∙ append_assoc n b rest in
    let behind = (slice_parts (length n) 1 (length t) t n (b ++ rest) (omega arith) refl same).1 in
    rw (ends, ← many) (slice_parts (sizes.hash * length hs) (1 + length n) (length t) t b rest (omega arith) long behind).0

-- what is written where there is room, the rest of the buffer behind it
saved_bytes : (s before saved : List ℕ) (count : ℕ) (w : Result ℕ Refusal) → list_good s count ≡ true
    → 1 + length (hash_list_bytes (hashes_at s 0 count)) ≤ length before
    → Written (state_output s count) before saved w
    → saved ≡ state_type ∷ (hash_list_bytes (hashes_at s 0 count) ++ drop (1 + length (hash_list_bytes (hashes_at s 0 count))) before)
saved_bytes s before saved count w good room v =
    let out : List ℕ = state_type ∷ hash_list_bytes (hashes_at s 0 count) in
    let fits : length out ≤ length before = omega arith in
    let start : 0 + length out ≤ length before = omega arith in
    let e : 0 + length out ≡ 1 + length (hash_list_bytes (hashes_at s 0 count)) = omega arith in
    let c : saved ≡ sets before 0 out = rw (state_out s count good, le-ltb (length before) (length out) fits) at v.content in
    c ∙ rw e at (sets-eq out before 0 start)

-- ---- what is loaded

-- A session with these shared heads: their number, the hashes in the buffer that was lent for them, and the session as a value, which is fresh
-- but for them whatever else is lent with it.
pub record LoadsBack (r : Result Session Refusal) (after : List ℕ) (count : ℕ) (hs : List ℕ) : Type 0 where
  pub session : r ≡ Ok (restored_counts count)
  pub heads : hashes_at after 0 count ≡ hs
  pub value : (l : Lent) → l.shared ≡ after → state_of (restored_counts count) l ≡ restored hs

-- hashes that are copied to the start of a buffer are the list that it starts with
loads : (before s after : List ℕ) (start count next : ℕ) (r : Result Session Refusal) → sizes.hash * count ≤ length before → state_at s ≡ Ok (run start count, next)
    → Restored s before after r
    → (hs : List ℕ)
    → AreHashes hs
    → length hs ≡ count
    → slice start next s ≡ hashes_bytes hs
    → LoadsBack r after count hs
loads before s after start count next r wide is l hs are many part =
    let got = loaded before s after start count next r wide is l in
    let put : after ≡ sets before 0 (hashes_bytes hs) = got.1 ∙ ap (sets before 0) part in
    let long : length (hashes_bytes hs) ≡ sizes.hash * count = length_hashes_bytes hs ∙ ap (λ (k : ℕ). sizes.hash * k) many in
    let fits : 0 + length (hashes_bytes hs) ≤ length before = omega arith in
    let whole : after ≡ hashes_bytes hs ++ drop (0 + length (hashes_bytes hs)) before = put ∙ sets-eq (hashes_bytes hs) before 0 fits in
    let there : slice 0 (0 + sizes.hash * length hs) after ≡ hashes_bytes hs =
    rw whole (take_at (hashes_bytes hs) (drop (0 + length (hashes_bytes hs)) before) (0 + sizes.hash * length hs) (omega arith))
    in
    let same : hashes_at after 0 count ≡ hs = rw many at (hashes_there_and_back after 0 hs are there) in
    record {
      session = got.0;
      heads = same;
      value = λ v e. restored_value v count ∙ ap restored (ap (λ (b : List ℕ). hashes_at b 0 count) e ∙ same);
    }

-- Reading a saved state loads its hashes.
pub read_loads : (s before after : List ℕ) (start count next : ℕ) (r : Result Session Refusal) → Bytes s → sizes.hash * count ≤ length before
    → state_at s ≡ Ok (run start count, next)
    → Restored s before after r
    → LoadsBack r after count (hashes_at s start count)
read_loads s before after start count next r all wide is l =
    let w = state_inside s start count next is in
    let e : next ≡ start + sizes.hash * count = w.whole in
    let fits : start + sizes.hash * count ≤ length s = omega (arith, w.there) in
    loads before s after start count next r wide is l (hashes_at s start count) (hashes_are_hashes s start count all) (length_hashes_at s start count)
    (ap (λ (k : ℕ). slice start k s) e ∙ sym (hashes_at_bytes s start count all fits))

-- Saving and then loading, with room for both, loads the shared heads that were saved.
pub saved_and_loaded : (s before saved shared after : List ℕ) (count : ℕ) (w : Result ℕ Refusal) (r : Result Session Refusal)
    → list_good s count ≡ true
    → AreHashes (hashes_at s 0 count)
    → 1 + length (hash_list_bytes (hashes_at s 0 count)) ≤ length before
    → sizes.hash * count ≤ length shared
    → Written (state_output s count) before saved w
    → Restored saved shared after r
    → LoadsBack r after count (hashes_at s 0 count)
saved_and_loaded s before saved shared after count w r good are room wide v l =
    let hs : List ℕ = hashes_at s 0 count in
    let rest : List ℕ = drop (1 + length (hash_list_bytes hs)) before in
    let is = saved_bytes s before saved count w good room v in
    let many : length hs ≡ count = length_hashes_at s 0 count in
    let start : ℕ = 1 + length (shortest count) in
    let next : ℕ = 1 + length (hash_list_bytes hs) in
    let read : state_at saved ≡ Ok (run start count, next) = rw is (state_written_read s rest count good are).0 in
    let ends : next ≡ start + sizes.hash * count = (state_inside saved start count next read).whole in
    loads shared saved after start count next r wide read l hs are many (rw is (heads_stand hs rest count next many ends))
