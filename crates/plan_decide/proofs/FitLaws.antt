-- What is decided is what was drafted, and fits where it is put. Assumes nothing.
use Prim.Native.Nat.{ℕ, ◌+◌, ◌*◌, ◌≤◌}
use mathlib.Core.Bool.{Bool, true, false, cond, ◌&&◌, not}
use mathlib.Core.Path.{◌≡◌, refl}
use native.Mathlib.Omega.{arith}
use borrow.Author.Tests.{ltb-false}
use lib.Dec.{ltb}
use Rattle.bloom.specs.Filter.{field_size}
use Rattle.plan_decide.specs.Internal.Draft.{heads_count, count_if, filter_if, drafted, reset_stated, planned_counts, says_with, unless_breaks, decided, no_puts, puts_of, Fits}
use Rattle.plan_decide.specs.declared.decide.Draft.{Draft}
use Rattle.plan_decide.specs.declared.puts.Puts.{Puts}
use Rattle.session.specs.PlanCall.{message_room, session_room}
use Rattle.session.specs.declared.plan_answer.PlanAnswer.{PlanAnswer}
use Rattle.session.specs.declared.plan_answer.PlanAnswer.TheVariants.{Reset, Says}
use Rattle.session.specs.declared.plan_answer.Rooms.{Rooms}
use Rattle.session.specs.declared.plan_answer.Stated.{Stated}
use Rattle.rules.specs.Sizes.{sizes}
use Rattle.rules.proofs.Cases.{split}
use Rattle.session.specs.Rooms.{or_short, if_room}
use Rattle.session_state.specs.declared.session.Session.{Session}
use Rattle.std.specs.Prelude.{Result, Ok, Err}
use Rattle.rules.specs.declared.refusal.Refusal.{Refusal}

some_shared : (b : Bool) (n : ℕ) → count_if b n ≤ n
unfolding count_if
some_shared true n = omega arith
some_shared false n = omega arith

some_heads : (needs supports : Bool) (n : ℕ) → (heads_count needs supports n ≡ 0 → ⊥) → heads_count needs supports n ≡ n
unfolding heads_count
some_heads needs supports n f = split (needs && not supports) (λ e. absurd (f (rw e))) (λ e. rw e)

some_field : (b : Bool) (syncs entries bits probes : ℕ) → ((filter_if b syncs entries bits probes).size ≡ 0 → ⊥)
    → ((filter_if b syncs entries bits probes).size ≡ field_size entries bits) × (b ≡ true)
unfolding filter_if
some_field true syncs entries bits probes f = (refl, refl)
some_field false syncs entries bits probes f = absurd (f refl)

not_short : (room wanted : ℕ) (rest : Result Unit ℕ) → or_short room wanted rest ≡ Ok tt → (wanted ≤ room) × (rest ≡ Ok tt)
not_short room wanted rest e =
    split (ltb room wanted)
    (λ t. let f : Err wanted ≡ (Ok tt) = rw t at e in absurd (let z : ◌≡◌ {A = ℕ} 0 1 = cc in omega arith))
    (λ t. let f : rest ≡ (Ok tt) = rw t at e in (ltb-false _ _ t, f))

record MessageFits (p : Stated) (r : Rooms) : Type 0 where
  heads : sizes.hash * p.heads ≤ r.heads
  need : sizes.hash * p.need ≤ r.need
  have : sizes.hash * p.syncs + p.filter.size ≤ r.have
  list : sizes.hash * p.hashes ≤ r.list

message_fits : (p : Stated) (r : Rooms) → message_room p r ≡ Ok tt → MessageFits p r
unfolding message_room
message_fits p r e =
    let a = not_short _ _ _ e in
    let b = not_short _ _ _ a.1 in
    let c = not_short _ _ _ b.1 in
    let d = not_short _ _ _ c.1 in
    record { heads = a.0; need = b.0; have = c.0; list = d.0 }

session_fits : (last_sent sent : ℕ) (r : Rooms) → session_room last_sent sent r ≡ Ok tt
    → (sizes.hash * last_sent ≤ r.last_sent) × (sizes.hash * sent ≤ r.sent)
unfolding session_room
session_fits last_sent sent r e =
    let a = not_short _ _ _ e in
    let b = not_short _ _ _ a.1 in
    (a.0, b.0)

module _ (s : Session) (d : Draft) (bits probes : ℕ) (r : Rooms) where
  none_fit : Fits s d bits no_puts r
  none_fit =
      record {
        heads = λ f. absurd (f refl);
        heads_room = omega arith;
        need = λ f. absurd (f refl);
        need_room = omega arith;
        syncs = omega arith;
        field = λ f. absurd (f refl);
        have_room = omega arith;
        list = λ f. absurd (f refl);
        list_room = omega arith;
        last_sent = λ f. absurd (f refl);
        last_sent_room = omega arith;
        sent = λ f. absurd (f refl);
        sent_room = omega arith;
      }

  in_room : (x : Result Unit ℕ) (a : Result PlanAnswer Refusal) → (x ≡ Ok tt → Fits s d bits (puts_of a) r) → Fits s d bits (puts_of (if_room Err x a)) r
  unfolding if_room puts_of
  in_room (Ok tt) a f = f refl
  in_room (Err wanted) a f = none_fit

  by_test : (t : Bool) (x y : Result PlanAnswer Refusal) → Fits s d bits (puts_of x) r → (t ≡ false → Fits s d bits (puts_of y) r) → Fits s d bits (puts_of (cond t x y)) r
  by_test true x y f g = f
  by_test false x y f g = g refl

  reset_fits : Fits s d bits (puts_of (if_room Err (message_room (reset_stated d.heads) r) (Ok (Reset (reset_stated d.heads))))) r
  unfolding puts_of
  reset_fits =
      in_room (message_room (reset_stated d.heads) r) (Ok (Reset (reset_stated d.heads)))
      (λ e.
      let f = message_fits (reset_stated d.heads) r e in
      record {
        heads = λ _. refl;
        heads_room = f.heads;
        need = λ g. absurd (g refl);
        need_room = omega arith;
        syncs = omega arith;
        field = λ g. absurd (g refl);
        have_room = omega arith;
        list = λ g. absurd (g refl);
        list_room = omega arith;
        last_sent = λ g. absurd (g refl);
        last_sent_room = omega arith;
        sent = λ g. absurd (g refl);
        sent_room = omega arith;
      })

  says_fits : d.need ≤ sizes.hashes → d.picked ≡ Ok tt → Fits s d bits (puts_of (says_with s d bits probes r)) r
  unfolding says_with puts_of
  says_fits few fine =
      let p : Stated = drafted s d bits probes in
      let said : Result PlanAnswer Refusal = Ok (Says p (planned_counts s d.heads d.sent)) in
      in_room (message_room p r) (if_room Err (session_room d.heads d.sent r) said)
      (λ e.
      in_room (session_room d.heads d.sent r) said
      (λ g.
      let f = message_fits p r e in
      let h = session_fits d.heads d.sent r g in
      record {
        heads = some_heads s.needs_reset s.supports_reset d.heads;
        heads_room = f.heads;
        need = λ _. (refl, few);
        need_room = f.need;
        syncs = some_shared d.gives s.shared_heads;
        field = some_field d.gives s.shared_heads d.entries bits probes;
        have_room = f.have;
        list = λ _. (refl, fine);
        list_room = f.list;
        last_sent = λ _. refl;
        last_sent_room = h.0;
        sent = λ _. (refl, fine);
        sent_room = h.1;
      }))

  picked_fits : d.need ≤ sizes.hashes → (k : Result Unit ℕ) → d.picked ≡ k → Fits s d bits (puts_of (unless_breaks k (says_with s d bits probes r))) r
  unfolding unless_breaks puts_of
  picked_fits few (Ok tt) e = says_fits few e
  picked_fits few (Err place) e = none_fit

  decided_fits : Fits s d bits (puts_of (decided s d bits probes r)) r
  unfolding decided puts_of
  decided_fits =
      by_test (ltb sizes.hashes d.need) _ _ none_fit
      (λ few.
      by_test d.unknown _ _ reset_fits
      (λ _. by_test d.silent _ _ none_fit (λ _. by_test (ltb sizes.sent_hashes d.sent) _ _ none_fit (λ _. picked_fits (ltb-false _ _ few) d.picked refl))))

-- What an answer puts, which was decided, is what was drafted and fits.
pub puts_fit : (s : Session) (d : Draft) (bits probes : ℕ) (r : Rooms) (a : Result PlanAnswer Refusal) (p : Puts) → a ≡ decided s d bits probes r → p ≡ puts_of a
    → Fits s d bits p r
puts_fit s d bits probes r a p e q = rw (q, e) (decided_fits s d bits probes r)
