-- What the struct's functions return is, with any lent lists, the session that the definitions of Session give; and a struct of counts is
-- determined by the sessions that it is.
use Prim.Native.Nat.{ℕ, zero, suc, ◌+◌, ◌*◌, ◌≤◌}
use mathlib.Core.Bool.{Bool, true, false}
use mathlib.Core.List.{List, []}
use mathlib.Core.Option.{none, some}
use mathlib.Core.Path.{◌≡◌, refl, sym, ap, ◌∙◌}
use native.Mathlib.Omega.{arith}
use lib.ListN.{length, replicate, length-replicate}
use lib.Seq.{length-take-le}
use Rattle.bloom.specs.Have.{have_words, have_count, haves_of, haves_from}
use Rattle.rules.specs.Hash.{hashes_at}
use Rattle.rules.proofs.Cases.{split}
use Rattle.rules.proofs.Hash.{length_hashes_at}
use Rattle.session_state.specs.Counts.{fresh_counts, fresh_read_only_counts, restored_counts, switched_off_counts, set_read_only_counts}
use Rattle.session_state.specs.Session.{fresh, fresh_read_only, restored, switched_off, set_read_only}
use Rattle.session_state.specs.Value.{Lent, kept_haves, heard_count, heard_hashes, heard_haves, state_of, count_heard, counts_of}
use Rattle.session_state.specs.declared.session.Session.{Session}
use Rattle.session_state.proofs.CountsLaws.{counts_same, counts_on, counts_off}
use Rattle.session_state.proofs.SessionLaws.{switch_same, switch_on, switch_off}
use Rattle.std.specs.Prelude.{Option, Some, None}

-- ---- what was heard

pub hashes_absent : (s : List ℕ) (h : Option ℕ) → h ≡ None → heard_hashes s h ≡ none
unfolding heard_hashes
hashes_absent s h e = rw e

pub hashes_there : (s : List ℕ) (h : Option ℕ) (n : ℕ) → h ≡ Some n → heard_hashes s h ≡ some (hashes_at s 0 n)
unfolding heard_hashes
hashes_there s h n e = rw e

pub haves_absent : (s haves : List ℕ) (h : Option ℕ) → h ≡ None → heard_haves s haves h ≡ none
unfolding heard_haves
haves_absent s haves h e = rw e

pub haves_there_lem : (s haves : List ℕ) (h : Option ℕ) (n : ℕ) → h ≡ Some n → heard_haves s haves h ≡ some (haves_of s (kept_haves haves n))
unfolding heard_haves
haves_there_lem s haves h n e = rw e

-- ---- the struct's functions

module _ (l : Lent) where
  pub fresh_value : state_of fresh_counts l ≡ fresh
  unfolding heard_hashes heard_haves hashes_at
  fresh_value = refl

  pub fresh_read_only_value : state_of fresh_read_only_counts l ≡ fresh_read_only
  unfolding heard_hashes heard_haves hashes_at
  fresh_read_only_value = refl

  pub restored_value : (n : ℕ) → state_of (restored_counts n) l ≡ restored (hashes_at l.shared 0 n)
  unfolding heard_hashes heard_haves hashes_at haves_of haves_from
  restored_value n = refl

  switched_off_value : (s : Session) → state_of (switched_off_counts s) l ≡ switched_off (state_of s l)
  unfolding heard_hashes heard_haves hashes_at
  switched_off_value s = refl

  pub set_read_only_value : (s : Session) (on : Bool) → state_of (set_read_only_counts s on) l ≡ set_read_only (state_of s l) on
  set_read_only_value s true = split s.read_only
      (λ w. rw (counts_same s true w, switch_same (state_of s l) true w))
      (λ w. rw (counts_on s w, switch_on (state_of s l) w))
  set_read_only_value s false = split s.read_only
      (λ w. rw (counts_off s w, switch_off (state_of s l) w, switched_off_value s))
      (λ w. rw (counts_same s false w, switch_same (state_of s l) false w))

-- ---- each list's length is its count

pub length_haves_from : (s haves : List ℕ) (count i : ℕ) → length (haves_from s haves i count) ≡ count
unfolding haves_from
length_haves_from s haves zero i = refl
length_haves_from s haves (suc count) i = ap suc (length_haves_from s haves count (suc i))

-- there are as many records as haves
pub kept_records : (haves : List ℕ) (n : ℕ) → have_words * n ≤ length haves → have_count (kept_haves haves n) ≡ n
kept_records haves n h =
    let e : length (kept_haves haves n) ≡ have_words * n = length-take-le (have_words * n) haves h in
    rw e (omega arith)

pub kept_length : (s haves : List ℕ) (n : ℕ) → have_words * n ≤ length haves → length (haves_of s (kept_haves haves n)) ≡ n
unfolding haves_of
kept_length s haves n h = length_haves_from s (kept_haves haves n) (have_count (kept_haves haves n)) 0 ∙ kept_records haves n h

-- what was heard is as long as its count says
pub hashes_counted : (s : List ℕ) (h : Option ℕ) → count_heard (heard_hashes s h) ≡ h
unfolding heard_hashes
hashes_counted s None = refl
hashes_counted s (Some n) = ap Some (length_hashes_at s 0 n)

-- All records of the haves that were heard are lent.
abbrev pub HavesLent : List ℕ → Option ℕ → Type 0
HavesLent haves h = (n : ℕ) → h ≡ Some n → have_words * n ≤ length haves

pub haves_counted : (s haves : List ℕ) (h : Option ℕ) → HavesLent haves h → count_heard (heard_haves s haves h) ≡ h
unfolding heard_haves
haves_counted s haves None f = refl
haves_counted s haves (Some n) f = ap Some (kept_length s haves n (f n refl))

-- a session that was read from counts has these counts
pub counts_back : (s : Session) (l : Lent) → HavesLent l.haves s.their_have → counts_of (state_of s l) ≡ s
counts_back s l f =
    let shared = length_hashes_at l.shared 0 s.shared_heads in
    let last_sent = length_hashes_at l.last_sent 0 s.last_sent_heads in
    let heads = hashes_counted l.their_heads s.their_heads in
    let need = hashes_counted l.their_need s.their_need in
    let haves = haves_counted l.bytes l.haves s.their_have f in
    let sent = length_hashes_at l.sent 0 s.sent_hashes in
    rw (shared, last_sent, heads, need, haves, sent)

-- Over the same lent lists two structs that are the same session are equal.
pub same_counts : (s t : Session) (l : Lent) → HavesLent l.haves s.their_have → HavesLent l.haves t.their_have → state_of s l ≡ state_of t l
    → s ≡ t
same_counts s t l f g e = sym (counts_back s l f) ∙ ap counts_of e ∙ counts_back t l g

-- lent lists with the records of n haves
abbrev room : ℕ → Lent
room n = record { shared = []; last_sent = []; their_heads = []; their_need = []; haves = replicate (have_words * n) 0; bytes = []; sent = [] }

room_lent : (h : Option ℕ) (k : ℕ) → heard_count h ≤ k → HavesLent (room k).haves h
room_lent h k le n e =
    let m : heard_count h ≡ n = rw e in
    let long : length (room k).haves ≡ have_words * k = length-replicate (have_words * k) 0 in
    rw long (omega arith)

-- Two structs that are the same session whatever is lent are equal.
pub value_once : (s t : Session) → ((l : Lent) → state_of s l ≡ state_of t l) → s ≡ t
value_once s t e =
    let k : ℕ = heard_count s.their_have + heard_count t.their_have in
    same_counts s t (room k) (room_lent s.their_have k (omega arith)) (room_lent t.their_have k (omega arith)) (e (room k))
