-- Where the parts are what is said, what is put is what the call promises. Nothing is put after a refusal and in silence,
-- which is no case of its own. Assumes nothing.
use Prim.Native.Nat.{ℕ, suc, ◌+◌, ◌*◌}
use mathlib.Core.List.{List, [], ◌∷◌, ◌++◌}
use mathlib.Core.Path.{◌≡◌, refl, ap, ◌∙◌}
use native.Mathlib.Nat.{zero-add}
use native.Mathlib.Omega.{arith}
use borrow.Author.Tests.{ne_eqb}
use lib.ListN.{length}
use lib.Seq.{sets}
use Rattle.session.specs.PlanCall.{syncs_of, filter_numbers, planned_answer, planned_roomed}
use Rattle.session.specs.PlanCall.{Buffers, put_into, planned_lists}
use Rattle.session.specs.Rooms.{if_room}
use Rattle.session.specs.declared.plan_answer.Rooms.{Rooms}
use Rattle.message.specs.Flags.{flags_of}
use Rattle.message.specs.declared.version.MessageVersion.TheVariants.{V1}
use Rattle.rules.specs.Hash.{hashes_at, hashes_bytes}
use Rattle.rules.specs.Sizes.{sizes}
use Rattle.rules.specs.declared.refusal.Refusal.{Refusal}
use Rattle.rules.proofs.Hash.{length_hashes_at, length_hashes_bytes}
use Rattle.rules.proofs.Outputs.{sets_append}
use Rattle.session.specs.Laid.{laid_bytes}
use Rattle.session.specs.Plan.{Plan, Planned, list_of}
use Rattle.session_state.specs.Value.{Lent}
use Rattle.plan_decide.specs.Internal.Draft.{PlanParts, PutLists, put_lists, puts_of}
use Rattle.plan_decide.specs.Internal.Draft.{unless_none, list_put, have_put, all_put}
use Rattle.std.specs.Prelude.{Result, Ok, Err}

-- ---- what is said, and what the session's lists become

-- Nothing said.
abbrev pub no_plan : Plan
no_plan = record { version = V1; heads = []; need = []; haves = []; body = list_of []; flags = flags_of 0 }

-- What is said: nothing after a refusal and in silence.
abbrev pub plan_said : Planned → Plan
plan_said (Planned.refused r) = no_plan
plan_said Planned.silent = no_plan
plan_said (Planned.reset p) = p
plan_said (Planned.says p after) = p

-- The heads sent last, where they change.
abbrev pub last_sent_put : Planned → List ℕ
last_sent_put (Planned.refused r) = []
last_sent_put Planned.silent = []
last_sent_put (Planned.reset p) = []
last_sent_put (Planned.says p after) = after.last_sent_heads

-- The hashes sent, where they change.
abbrev pub sent_put : Planned → List ℕ
sent_put (Planned.refused r) = []
sent_put Planned.silent = []
sent_put (Planned.reset p) = []
sent_put (Planned.says p after) = after.sent_hashes

-- ---- what is said of the parts

-- What is said, and what the session's lists become, is all or nothing of each part.
pub record Starts (q : Planned) (parts : PlanParts) : Type 0 where
  pub heads : unless_none (length (plan_said q).heads) parts.heads ≡ (plan_said q).heads
  pub need : unless_none (length (plan_said q).need) parts.need ≡ (plan_said q).need
  pub have : hashes_bytes (hashes_at parts.shared 0 (syncs_of (plan_said q).haves)) ++ unless_none (filter_numbers (plan_said q).haves).size parts.field
      ≡ laid_bytes (plan_said q).haves
  pub list : unless_none (length (plan_said q).body.hashes) parts.list ≡ (plan_said q).body.hashes
  pub last_sent : unless_none (length (last_sent_put q)) parts.heads ≡ last_sent_put q
  pub sent : unless_none (length (sent_put q)) parts.sent ≡ sent_put q

-- all of a list
pub all_said : (l : List ℕ) → unless_none (length l) l ≡ l
unfolding unless_none
all_said [] = refl
all_said (h ∷ hs) = rw (ne_eqb (suc (length hs)) 0 (λ z. omega arith))

pub buffers_same : {a a' b b' c c' d d' e e' f f' : List ℕ} → a ≡ a' → b ≡ b' → c ≡ c' → d ≡ d' → e ≡ e' → f ≡ f'
    → ◌≡◌ {A = PutLists} (record { heads = a; need = b; have = c; list = d; last_sent = e; sent = f })
    (record { heads = a'; need = b'; have = c'; list = d'; last_sent = e'; sent = f' })
buffers_same a b c d e f = rw (a, b, c, d, e, f)

-- a list at the start of a buffer
list_put_lem : (buffer part hs : List ℕ) → unless_none (length hs) part ≡ hs → list_put (length hs) part buffer ≡ sets buffer 0 (hashes_bytes hs)
list_put_lem buffer part hs e = ap (λ (l : List ℕ). sets buffer 0 (hashes_bytes l)) e

-- one part after the other
have_put_lem : (buffer shared field bytes : List ℕ) (k n : ℕ) → hashes_bytes (hashes_at shared 0 k) ++ unless_none n field ≡ bytes
    → have_put k shared n field buffer ≡ sets buffer 0 bytes
have_put_lem buffer shared field bytes k n e =
    let first : List ℕ = hashes_bytes (hashes_at shared 0 k) in
    let long : 0 + length first ≡ sizes.hash * k =
    zero-add _ ∙ length_hashes_bytes (hashes_at shared 0 k) ∙ ap (λ (m : ℕ). sizes.hash * m) (length_hashes_at shared 0 k)
    in
    let all : sets (sets buffer 0 first) (0 + length first) (unless_none n field) ≡ sets buffer 0 (first ++ unless_none n field) =
    sets_append first (unless_none n field) buffer 0
    in
    rw (long, e) at all

-- The message's buffers and the session's lists, as they are put.
abbrev pub lists_of : Buffers → Lent → PutLists
lists_of b l = put_lists b.heads b.need b.have b.list l.last_sent l.sent

module _ (parts : PlanParts) (b : Buffers) (l : Lent) where
  pub put_as_said : (q : Planned) → Starts q parts → all_put (puts_of (planned_answer q)) parts (lists_of b l) ≡ lists_of (put_into q b) (planned_lists q l)
  unfolding puts_of planned_answer put_into planned_lists hashes_at hashes_bytes laid_bytes unless_none
  put_as_said (Planned.refused r) f = refl
  put_as_said Planned.silent f = refl
  put_as_said (Planned.reset p) f =
      buffers_same
      (list_put_lem _ _ _ f.heads)
      (list_put_lem _ _ _ f.need)
      (have_put_lem b.have parts.shared parts.field _ (syncs_of p.haves) (filter_numbers p.haves).size f.have)
      (list_put_lem _ _ _ f.list)
      refl
      refl
  put_as_said (Planned.says p after) f =
      buffers_same
      (list_put_lem _ _ _ f.heads)
      (list_put_lem _ _ _ f.need)
      (have_put_lem b.have parts.shared parts.field _ (syncs_of p.haves) (filter_numbers p.haves).size f.have)
      (list_put_lem _ _ _ f.list)
      (list_put_lem _ _ _ f.last_sent)
      (list_put_lem _ _ _ f.sent)

-- A session's lists with other heads sent last and other hashes sent.
abbrev pub changed : Lent → List ℕ → List ℕ → Lent
changed l last_sent sent =
    record {
      shared = l.shared;
      last_sent = last_sent;
      their_heads = l.their_heads;
      their_need = l.their_need;
      haves = l.haves;
      bytes = l.bytes;
      sent = sent;
    }

-- planning changes no other list
pub lists_change : (q : Planned) (l : Lent) → changed l (planned_lists q l).last_sent (planned_lists q l).sent ≡ planned_lists q l
unfolding planned_lists
lists_change (Planned.refused r) l = refl
lists_change Planned.silent l = refl
lists_change (Planned.reset p) l = refl
lists_change (Planned.says p after) l = refl

-- nothing is at every start
pub refused_starts : (r : Refusal) (parts : PlanParts) → Starts (Planned.refused r) parts
unfolding hashes_at hashes_bytes laid_bytes unless_none
refused_starts r parts = record { heads = refl; need = refl; have = refl; list = refl; last_sent = refl; sent = refl }

pub silent_starts : (parts : PlanParts) → Starts Planned.silent parts
unfolding hashes_at hashes_bytes laid_bytes unless_none
silent_starts parts = record { heads = refl; need = refl; have = refl; list = refl; last_sent = refl; sent = refl }

after_room : (x : Result Unit ℕ) (q : Planned) (parts : PlanParts) → Starts q parts → Starts (if_room Planned.refused x q) parts
unfolding if_room
after_room (Ok tt) q parts f = f
after_room (Err wanted) q parts f = refused_starts _ parts

pub roomed_starts : (r : Rooms) (q : Planned) (parts : PlanParts) → Starts q parts → Starts (planned_roomed r q) parts
unfolding planned_roomed
roomed_starts r (Planned.refused e) parts f = f
roomed_starts r Planned.silent parts f = f
roomed_starts r (Planned.reset p) parts f = after_room _ _ parts f
roomed_starts r (Planned.says p after) parts f = after_room _ _ parts (after_room _ _ parts f)
