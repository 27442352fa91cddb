-- Over buffers of limit size 7 is never answered: what a sound message or a good session has is within the limits. Assumes nothing.
use Prim.Native.Nat.{ℕ, ◌+◌, ◌*◌, ◌≤◌, ◌<◌}
use mathlib.Core.List.{List, [], ◌∷◌}
use mathlib.Core.Option.{Option, none, some}
use mathlib.Core.Path.{◌≡◌, ◌∙◌}
use native.Mathlib.Omega.{arith}
use borrow.Author.Tests.{le-ltb, eqb-true}
use lib.Dec.{eqb}
use lib.ListN.{length}
use Rattle.bloom.specs.Have.{Have, have_words}
use Rattle.bloom.proofs.Rules.{ruled, capacity_none}
use Rattle.session.specs.GoodState.{SoundHaves, WhereHeard, GoodState}
use Rattle.session.specs.Receive.{Received}
use Rattle.session.specs.Kept.{PlannedRoom, ReceivedRoom}
use Rattle.message.specs.Sound.{Each, SoundHashes, SoundHave}
use Rattle.session.specs.PlanCall.{Buffers, syncs_of, filter_numbers, message_room, session_room, planned_roomed, planned_rooms}
use Rattle.session.specs.Rooms.{if_room}
use Rattle.session.specs.ReceiveCall.{kept_room, received_roomed, received_rooms}
use Rattle.rules.specs.Hash.{AreHashes}
use Rattle.rules.specs.Sizes.{sizes}
use Rattle.rules.proofs.Cases.{split}
use Rattle.session.specs.Laid.{laid_bytes}
use Rattle.session.specs.Plan.{Plan, Planned, heard}
use Rattle.session.proofs.LaidLaws.{laid_length_bytes}
use Rattle.session_state.specs.Session.{State}
use Rattle.session_state.specs.Value.{Lent}
use Rattle.walk_sessions.proofs.Message.{some_entries}
use Rattle.walk_hosts.specs.Memory.{have_room, Roomy, RoomyOut}

-- A message that planning may state: what every stage above relies on.
pub record Fine (q : Plan) : Type 0 where
  pub heads : SoundHashes q.heads
  pub need : SoundHashes q.need
  pub haves : SoundHaves q.haves
  pub one : length q.haves ≤ 1
  pub few : length q.body.hashes ≤ sizes.hashes_to_send
  pub are : AreHashes q.body.hashes
  pub flags : q.flags.0 < 256

-- ---- sizes

fits : (n most room : ℕ) → n ≤ most → sizes.hash * most ≤ room → sizes.hash * n ≤ room
fits n most room h k = omega arith

field_small : (v : Have) → SoundHave v → length v.filter.field ≤ sizes.field
field_small v s =
    let f = v.filter in
    let r = ruled f.entries f.bits f.probes (length f.field) s.filter in
    split (eqb f.entries 0)
    (λ z.
    let none : f.entries ≡ 0 = eqb-true _ _ z in
    let empty : length f.field ≡ 0 = r.size ∙ rw none (capacity_none f.bits) in
    omega arith)
    (λ z. (r.full (some_entries f.entries z)).small)

have_small : (v : Have) → SoundHave v → sizes.hash * length v.last_sync + length v.filter.field ≤ have_room
have_small v s = omega (arith, s.last_sync.few, field_small v s)

-- haves that are laid out take no more than their room
pub laid_small : (vs : List Have) → Each SoundHave vs → length (laid_bytes vs) ≤ have_room * length vs
unfolding Each laid_bytes
laid_small [] g = omega arith
laid_small (v ∷ vs) g = omega (arith, laid_length_bytes v vs, have_small v g.0, laid_small vs g.1)

wanted_small : (vs : List Have) → Each SoundHave vs → sizes.hash * syncs_of vs + (filter_numbers vs).size ≤ have_room
unfolding Each
wanted_small [] g = omega arith
wanted_small (v ∷ vs) g = have_small v g.0

-- ---- planning

module _ (o : Buffers) (l : Lent) (wide : RoomyOut o) (room : Roomy l) where
  pub planned_room : (s : State) → GoodState s → PlannedRoom s l
  planned_room s g =
      record { last_sent = fits _ _ _ g.last_sent.few room.last_sent; sent = fits _ _ _ g.sent_few room.sent }

  have_fits : (q : Plan) → Fine q → sizes.hash * syncs_of q.haves + (filter_numbers q.haves).size ≤ length o.have
  have_fits q f = omega (arith, wanted_small q.haves f.haves.each, wide.have)

  pub reset_roomed : (q : Plan) → Fine q → planned_roomed (planned_rooms o l) (Planned.reset q) ≡ Planned.reset q
  unfolding planned_roomed message_room if_room
  reset_roomed q f =
      rw (
        le-ltb _ _ (fits _ _ _ f.heads.few wide.heads),
        le-ltb _ _ (fits _ _ _ f.need.few wide.need),
        le-ltb _ _ (have_fits q f),
        le-ltb _ _ (fits _ _ _ f.few wide.list),
      )

  pub says_roomed : (q : Plan) (s : State) → Fine q → GoodState s → planned_roomed (planned_rooms o l) (Planned.says q s) ≡ Planned.says q s
  unfolding planned_roomed message_room session_room if_room
  says_roomed q s f g =
      rw (
        le-ltb _ _ (fits _ _ _ f.heads.few wide.heads),
        le-ltb _ _ (fits _ _ _ f.need.few wide.need),
        le-ltb _ _ (have_fits q f),
        le-ltb _ _ (fits _ _ _ f.few wide.list),
        le-ltb _ _ (fits _ _ _ g.last_sent.few room.last_sent),
        le-ltb _ _ (fits _ _ _ g.sent_few room.sent),
      )

-- ---- receiving

heard_fits : (h : Option (List ℕ)) (n : ℕ) → WhereHeard SoundHashes h → sizes.hash * sizes.hashes ≤ n → sizes.hash * length (heard h) ≤ n
heard_fits none n g k = omega arith
heard_fits (some hs) n g k = fits _ _ _ g.few k

words_fit : (h : Option (List Have)) (n : ℕ) → WhereHeard SoundHaves h → have_words * sizes.haves ≤ n → have_words * length (heard h) ≤ n
words_fit none n g k = omega arith
words_fit (some vs) n g k = omega (arith, g.few)

bytes_fit : (h : Option (List Have)) (n : ℕ) → WhereHeard SoundHaves h → have_room * sizes.haves ≤ n → length (laid_bytes (heard h)) ≤ n
unfolding laid_bytes
bytes_fit none n g k = omega arith
bytes_fit (some vs) n g k = omega (arith, g.few, laid_small vs g.each)

pub received_room : (s : State) (l : Lent) → GoodState s → Roomy l → ReceivedRoom s l
received_room s l g room =
    record {
      shared = fits _ _ _ g.shared.few room.shared;
      last_sent = fits _ _ _ g.last_sent.few room.last_sent;
      their_heads = heard_fits s.their_heads _ g.their_heads room.their_heads;
      their_need = heard_fits s.their_need _ g.their_need room.their_need;
      haves = words_fit s.their_have _ g.their_have room.haves;
      bytes = bytes_fit s.their_have _ g.their_have room.bytes;
    }

pub took_roomed : (s : State) (l : Lent) → GoodState s → Roomy l → received_roomed (received_rooms l) (Received.took s) ≡ Received.took s
unfolding received_roomed kept_room if_room
took_roomed s l g room =
    let r = received_room s l g room in
    rw (
      le-ltb _ _ r.shared,
      le-ltb _ _ r.last_sent,
      le-ltb _ _ r.their_heads,
      le-ltb _ _ r.their_need,
      le-ltb _ _ r.haves,
      le-ltb _ _ r.bytes,
    )
