-- What internal contracts speak of: numbers of a plan before it is decided, and what an answer puts of its parts. No rule of 01 stands here.
use Rattle.std.specs.Prelude.{ℕ, ◌+◌, ◌*◌, ◌≤◌, Bool, true, false, cond, ◌&&◌, not, List, [], ◌≡◌, eqb, ltb, length, Result, Ok, Err}
use Rattle.std.proofs.lemmas.List.Edits.{sets}
use Rattle.bloom.specs.Filter.{field_size, default_bits, default_probes}
use Rattle.bloom.specs.Have.{numbers_of}
use Rattle.bloom.specs.declared.have.FilterNumbers.{FilterNumbers}
use Rattle.message.specs.Flags.{flags_of, supports_sync_reset}
use Rattle.message.specs.declared.version.MessageVersion.TheVariants.{V1}
use Rattle.leb128.specs.Number.{most_filter}
use Rattle.session.specs.PlanCall.{message_room, session_room}
use Rattle.session.specs.Rooms.{if_room}
use Rattle.session.specs.declared.plan_answer.PlanAnswer.{PlanAnswer}
use Rattle.session.specs.declared.plan_answer.PlanAnswer.TheVariants.{Silent, Reset, Says}
use Rattle.session.specs.declared.plan_answer.Rooms.{Rooms}
use Rattle.session.specs.declared.plan_answer.Stated.{Stated}
use Rattle.rules.specs.Hash.{hashes_at, hashes_bytes}
use Rattle.rules.specs.Sizes.{sizes}
use Rattle.rules.specs.declared.refusal.Refusal.TheVariants.{PastSize, BadPick}
use Rattle.session.specs.Plan.{version_for, flags_for}
use Rattle.session_state.specs.declared.session.Session.{Session}
use Rattle.plan_decide.specs.declared.decide.Draft.{Draft}
use Rattle.plan_decide.specs.declared.puts.Puts.{Puts}
use Rattle.rules.specs.declared.refusal.Refusal.{Refusal}

-- ---- what is decided

-- How many heads a message has: none where the peer is to think that all was lost here.
unfoldable pub heads_count : Bool → Bool → ℕ → ℕ
heads_count needs_reset supports_reset n = cond (needs_reset && not supports_reset) 0 n

-- n where something is given, else 0.
unfoldable pub count_if : Bool → ℕ → ℕ
count_if given n = cond given n 0

-- The numbers of a filter behind `syncs` last-sync hashes where one is given, else zeros.
unfoldable pub filter_if : Bool → ℕ → ℕ → ℕ → ℕ → FilterNumbers
filter_if given syncs entries bits probes =
    cond given (numbers_of entries bits probes (sizes.hash * syncs) (field_size entries bits)) (numbers_of 0 0 0 0 0)

-- The numbers of the message that is drafted, with a have or without one.
abbrev pub drafted : Session → Draft → ℕ → ℕ → Stated
drafted s d bits probes =
    record {
      version = version_for s.supports_v2;
      flags = flags_for s.read_only (s.needs_reset && s.supports_reset);
      document = d.body.document;
      heads = heads_count s.needs_reset s.supports_reset d.heads;
      need = d.need;
      haves = count_if d.gives 1;
      syncs = count_if d.gives s.shared_heads;
      filter = filter_if d.gives s.shared_heads d.entries bits probes;
      hashes = d.body.hashes;
    }

-- Small enough for its bytes to be counted.
pub record SmallStated (p : Stated) : Type 0 where
  pub heads : p.heads ≤ sizes.rows
  pub need : p.need ≤ sizes.hashes + 1
  pub syncs : p.syncs ≤ sizes.hashes
  pub field : p.filter.size ≤ sizes.field
  pub hashes : p.hashes ≤ sizes.hashes_to_send

-- The numbers that a message is drafted from are small enough for its bytes to be counted.
pub record SmallDraft (s : Session) (d : Draft) (bits : ℕ) : Type 0 where
  pub heads : d.heads ≤ sizes.rows
  pub need : d.need ≤ sizes.hashes + 1
  pub shared : s.shared_heads ≤ sizes.hashes
  pub entries : d.entries ≤ sizes.rows
  pub few : bits ≤ most_filter
  pub field : field_size d.entries bits ≤ sizes.field
  pub hashes : d.body.hashes ≤ sizes.hashes_to_send
  pub sent : d.sent ≤ sizes.sent_hashes + sizes.rows

-- The numbers of a reset's message: its heads, one empty have, no need and no body, in V1.
abbrev pub reset_stated : ℕ → Stated
reset_stated heads =
    record {
      version = V1;
      flags = flags_of supports_sync_reset;
      document = false;
      heads = heads;
      need = 0;
      haves = 1;
      syncs = 0;
      filter = numbers_of 0 default_bits default_probes 0 0;
      hashes = 0;
    }

-- The counts of the session after a message: how many heads were sent last, the unit's own even where the message has none, and how many hashes are sent.
abbrev pub planned_counts : Session → ℕ → ℕ → Session
planned_counts s last_sent sent =
    record {
      shared_heads = s.shared_heads;
      last_sent_heads = last_sent;
      their_heads = s.their_heads;
      their_need = s.their_need;
      their_have = s.their_have;
      sent_hashes = sent;
      in_flight = true;
      have_responded = true;
      supports_v2 = s.supports_v2;
      supports_reset = s.supports_reset;
      read_only = s.read_only;
      peer_read_only = s.peer_read_only;
      needs_reset = false;
    }

-- The message, where there is room.
unfoldable pub says_with : Session → Draft → ℕ → ℕ → Rooms → Result PlanAnswer Refusal
says_with s d bits probes r =
    if_room Err (message_room (drafted s d bits probes) r)
    (if_room Err (session_room d.heads d.sent r) (Ok (Says (drafted s d bits probes) (planned_counts s d.heads d.sent))))

-- 17 for a pick that isn't accepted, else what is said.
unfoldable pub unless_breaks : Result Unit ℕ → Result PlanAnswer Refusal → Result PlanAnswer Refusal
unless_breaks (Ok tt) a = a
unless_breaks (Err place) a = Err (BadPick place)

-- What is decided from the numbers, in the order of the refusals.
unfoldable pub decided : Session → Draft → ℕ → ℕ → Rooms → Result PlanAnswer Refusal
decided s d bits probes r =
    cond (ltb sizes.hashes d.need)
    (Err (PastSize 0))
    (cond d.unknown
    (if_room Err (message_room (reset_stated d.heads) r) (Ok (Reset (reset_stated d.heads))))
    (cond d.silent
    (Ok Silent)
    (cond (ltb sizes.sent_hashes d.sent) (Err (PastSize 0)) (unless_breaks d.picked (says_with s d bits probes r)))))

-- ---- what is put

-- A list, or nothing of it where none of it is counted.
unfoldable pub unless_none : ℕ → List ℕ → List ℕ
unless_none n l = cond (eqb n 0) [] l

-- What an answer is put from: the heads; the hashes asked for; the shared heads as they stand in their buffer; the field of the have's filter; the
-- hashes of the body; and those that are sent then.
pub record PlanParts : Type 0 where
  pub heads : List ℕ
  pub need : List ℕ
  pub shared : List ℕ
  pub field : List ℕ
  pub list : List ℕ
  pub sent : List ℕ

-- The lent lists, in the order in which room is asked for.
pub record PutLists : Type 0 where
  pub heads : List ℕ
  pub need : List ℕ
  pub have : List ℕ
  pub list : List ℕ
  pub last_sent : List ℕ
  pub sent : List ℕ

-- The lent lists, in the order in which they are lent.
abbrev pub put_lists : List ℕ → List ℕ → List ℕ → List ℕ → List ℕ → List ℕ → PutLists
put_lists heads need have list last_sent sent =
    record { heads = heads; need = need; have = have; list = list; last_sent = last_sent; sent = sent }

-- How long they are.
abbrev pub put_rooms : PutLists → Rooms
put_rooms b =
    record {
      heads = length b.heads;
      need = length b.need;
      have = length b.have;
      list = length b.list;
      last_sent = length b.last_sent;
      sent = length b.sent;
    }

-- Nothing put.
abbrev pub no_puts : Puts
no_puts = record { heads = 0; need = 0; syncs = 0; field = 0; hashes = 0; last_sent = 0; sent = 0 }

-- How many hashes and bytes a message puts into each buffer, and how many hashes the session's two lists get.
abbrev pub puts_for : Stated → ℕ → ℕ → Puts
puts_for p last_sent sent =
    record {
      heads = p.heads;
      need = p.need;
      syncs = p.syncs;
      field = p.filter.size;
      hashes = p.hashes;
      last_sent = last_sent;
      sent = sent;
    }

-- How many hashes and bytes an answer puts into each buffer: a refusal and silence none, a reset leaves the session's lists.
unfoldable pub puts_of : Result PlanAnswer Refusal → Puts
puts_of (Err r) = no_puts
puts_of (Ok Silent) = no_puts
puts_of (Ok (Reset p)) = puts_for p 0 0
puts_of (Ok (Says p s)) = puts_for p s.last_sent_heads s.sent_hashes

-- What an answer puts is what was drafted, and of the body only what breaks no rule, and the buffers have room for it.
pub record Fits (s : Session) (d : Draft) (bits : ℕ) (p : Puts) (r : Rooms) : Type 0 where
  pub heads : (p.heads ≡ 0 → ⊥) → p.heads ≡ d.heads
  pub heads_room : sizes.hash * p.heads ≤ r.heads
  pub need : (p.need ≡ 0 → ⊥) → (p.need ≡ d.need) × (d.need ≤ sizes.hashes)
  pub need_room : sizes.hash * p.need ≤ r.need
  pub syncs : p.syncs ≤ s.shared_heads
  pub field : (p.field ≡ 0 → ⊥) → (p.field ≡ field_size d.entries bits) × (d.gives ≡ true)
  pub have_room : sizes.hash * p.syncs + p.field ≤ r.have
  pub list : (p.hashes ≡ 0 → ⊥) → (p.hashes ≡ d.body.hashes) × (d.picked ≡ Ok tt)
  pub list_room : sizes.hash * p.hashes ≤ r.list
  pub last_sent : (p.last_sent ≡ 0 → ⊥) → p.last_sent ≡ d.heads
  pub last_sent_room : sizes.hash * p.last_sent ≤ r.last_sent
  pub sent : (p.sent ≡ 0 → ⊥) → (p.sent ≡ d.sent) × (d.picked ≡ Ok tt)
  pub sent_room : sizes.hash * p.sent ≤ r.sent

-- A list put at the start of a buffer, or nothing of it.
abbrev pub list_put : ℕ → List ℕ → List ℕ → List ℕ
list_put n hs buffer = sets buffer 0 (hashes_bytes (unless_none n hs))

-- The first hashes of one buffer put at the start of another.
abbrev pub start_put : ℕ → List ℕ → List ℕ → List ℕ
start_put n part buffer = sets buffer 0 (hashes_bytes (hashes_at part 0 n))

-- A have's buffer: n last-sync hashes at its start and the field behind them, if it has `size` bytes and not none.
abbrev pub have_put : ℕ → List ℕ → ℕ → List ℕ → List ℕ → List ℕ
have_put n shared size field buffer = sets (start_put n shared buffer) (sizes.hash * n) (unless_none size field)

-- All of it put.
abbrev pub all_put : Puts → PlanParts → PutLists → PutLists
all_put p parts b =
    record {
      heads = list_put p.heads parts.heads b.heads;
      need = list_put p.need parts.need b.need;
      have = have_put p.syncs parts.shared p.field parts.field b.have;
      list = list_put p.hashes parts.list b.list;
      last_sent = list_put p.last_sent parts.heads b.last_sent;
      sent = list_put p.sent parts.sent b.sent;
    }
