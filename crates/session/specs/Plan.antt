-- What a unit says next, and its session afterwards. 01, Session, which goes by `generate_sync_message` of src/sync.rs: the definitions stand in the
-- order in which it computes them. 02, M-110: the steps are over what goes, the body that the session asks for or a pick of it.
use Rattle.std.specs.Prelude.{ℕ, ◌+◌, ◌/◌, Bool, true, false, cond, not, ◌&&◌, ◌||◌, List, [], ◌∷◌, ◌++◌, ltb, length, Result, Ok, Err}
use Rattle.std.proofs.Math.Option.{Option, none, some}
use Rattle.bloom.specs.Filter.{filter_of4, default_bits, default_probes}
use Rattle.bloom.specs.Have.{Have}
use Rattle.table_graph.specs.Graph.{heads, beyond}
use Rattle.hash_lists.specs.Lists.{same}
use Rattle.message.specs.Flags.{sync_reset, read_only_flag, supports_sync_reset, flags_of}
use Rattle.message.specs.declared.flags.MessageFlags.{MessageFlags}
use Rattle.message.specs.declared.version.MessageVersion.TheVariants.{V1, V2}
use Rattle.message.specs.declared.version.MessageVersion.{MessageVersion}
use Rattle.waiting_missing.specs.Missing.{missing}
use Rattle.hash_order.specs.Order.{member, every, ascend}
use Rattle.bloom_probe.specs.Build.{filter_of}
use Rattle.rules.specs.Sizes.{sizes}
use Rattle.pick.specs.Picking.{pick_checked}
use Rattle.rules.specs.declared.refusal.Refusal.TheVariants.{PastSize, BadPick}
use Rattle.rules.specs.declared.refusal.Refusal.{Refusal}
use Rattle.send.specs.ToSend.{to_send_less}
use Rattle.session_state.specs.Session.{State}
use Rattle.table.specs.Table.{Row, rows, held}
use Rattle.waiting.specs.Waiting.{Waiting}

-- What a message carries: hashes, whose changes the host lends, and whether these go as the whole document. Nothing is a list of none.
pub record Body : Type 0 where
  pub document : Bool
  pub hashes : List ℕ

-- A message that is to be written once the host has lent the bytes of its changes.
pub record Plan : Type 0 where
  pub version : MessageVersion
  pub heads : List ℕ
  pub need : List ℕ
  pub haves : List Have
  pub body : Body
  pub flags : MessageFlags

-- Nothing is said after a refusal and in silence; a reset leaves the session as it was, a message doesn't.
pub data Planned : Type 0 where
  refused : Refusal → Planned
  silent : Planned
  reset : Plan → Planned
  says : Plan → State → Planned

-- Hashes or haves that were heard, or none where nothing was.
abbrev pub heard : {A : Type 0} → Option (List A) → List A
heard none = []
heard (some l) = l

-- Heard, and just these. Nothing heard isn't a list of none.
abbrev pub heard_as : List ℕ → Option (List ℕ) → Bool
heard_as l none = false
heard_as l (some m) = same m l

-- `our_need`: what is missing from the heads that were heard, not all that waiting changes lack; a read-only unit asks for nothing.
unfoldable pub need_of : List Row → List Waiting → Bool → List ℕ → List ℕ
need_of t w readOnlyUnit their_heads = cond readOnlyUnit [] (missing t w their_heads)

-- `make_bloom_filter`: the last-sync hashes as they stand, and a filter over the rows beyond them.
unfoldable pub have_of : ℕ → ℕ → List Row → List ℕ → Have
have_of bits probes t last_sync = record { last_sync = last_sync; filter = filter_of bits probes (beyond t last_sync) }

-- `our_have`: one if each hash that is asked for is a head that was heard, else none.
unfoldable pub haves_for : ℕ → ℕ → List Row → List ℕ → List ℕ → List ℕ → List Have
haves_for bits probes t need their_heads last_sync =
    cond (every (λ h. member h their_heads) need) (have_of bits probes t last_sync ∷ []) []

-- A reset is due where the peer's first have names a last-sync hash that isn't held: one of the two lost data. Other haves aren't looked at.
unfoldable pub unknown_sync : List Row → Option (List Have) → Bool
unknown_sync t none = false
unknown_sync t (some []) = false
unknown_sync t (some (v ∷ vs)) = not (every (held t) v.last_sync)

-- A body that names hashes.
abbrev pub list_of : List ℕ → Body
list_of l = record { document = false; hashes = l }

-- A body that is the whole document: every row's hash.
abbrev pub document_of : List Row → Body
document_of t = record { document = true; hashes = rows t }

-- More than this part of the rows, rounded down, goes as the document.
abbrev pub document_part : ℕ
document_part = 3

-- The hashes to send, less those that were sent; or the document, to a peer that knows V2 and is heard to have no heads at all (`send_doc`), or where the list
-- is longer than its part of the rows.
unfoldable pub body_for : List Row → Bool → Bool → List Have → List ℕ → List ℕ → Body
body_for t v2 headless haves need sent =
    cond (v2 && (headless || ltb (length t / document_part) (length (to_send_less t haves need sent))))
    (document_of t)
    (list_of (to_send_less t haves need sent))

-- Nothing goes before both a have and a need were heard.
unfoldable pub body_heard : List Row → Bool → Bool → Option (List Have) → Option (List ℕ) → List ℕ → Body
body_heard t v2 headless none need sent = list_of []
body_heard t v2 headless (some haves) none sent = list_of []
body_heard t v2 headless (some haves) (some need) sent = body_for t v2 headless haves need sent

-- Nothing goes to a peer that takes no changes.
unfoldable pub body_of : List Row → State → Body
body_of t s =
    cond s.peer_read_only
    (list_of [])
    (body_heard t s.supports_v2 (heard_as [] s.their_heads) s.their_have s.their_need s.sent_hashes)

-- A list of no hashes. 01 counts a document as not empty; that of no rows is empty nevertheless, as in the crate (docs/DECISIONS.md): there is nothing in
-- it to tell.
abbrev pub empty : List ℕ → Bool
empty [] = true
empty (h ∷ hs) = false

-- Silence: the heads are those that were sent last and the peer was answered, and there is nothing to tell, or a message is still on its way. Nothing is
-- to be told where the peer has these heads, or this unit takes no changes, and nothing goes.
unfoldable pub silence : List Row → State → Bool → Bool
silence t s nothing_goes =
    (same s.last_sent_heads (heads t) && s.have_responded)
    && (((heard_as (heads t) s.their_heads || s.read_only) && nothing_goes) || s.in_flight)

-- The hashes sent in the session: those of the body join, each once, ascending.
unfoldable pub sent_after : State → Body → List ℕ
sent_after s b = ascend (b.hashes ++ s.sent_hashes)

-- A peer that is to forget what it sent is told so where it understands that; where not, a message without heads looks as if all was lost here.
unfoldable pub heads_for : Bool → Bool → List ℕ → List ℕ
heads_for needs_reset supports_reset ourHeads = cond (needs_reset && not supports_reset) [] ourHeads

-- The flags of a message: a reset is always understood here; read-only and forgetting as they are.
unfoldable pub flags_for : Bool → Bool → MessageFlags
flags_for readOnlyUnit tellsReset = flags_of (supports_sync_reset + (cond readOnlyUnit read_only_flag 0 + cond tellsReset sync_reset 0))

-- V2 for a peer that knows it, whatever the body.
unfoldable pub version_for : Bool → MessageVersion
version_for v2 = cond v2 V2 V1

-- The message with a body.
unfoldable pub plan_of : ℕ → ℕ → List Row → List Waiting → State → Body → Plan
plan_of bits probes t w s b =
    record {
      version = version_for s.supports_v2;
      heads = heads_for s.needs_reset s.supports_reset (heads t);
      need = need_of t w s.read_only (heard s.their_heads);
      haves = haves_for bits probes t (need_of t w s.read_only (heard s.their_heads)) (heard s.their_heads) s.shared_heads;
      body = b;
      flags = flags_for s.read_only (s.needs_reset && s.supports_reset);
    }

-- The session after it.
unfoldable pub planned : List Row → State → Body → State
planned t s b =
    record {
      shared_heads = s.shared_heads;
      last_sent_heads = heads t;
      their_heads = s.their_heads;
      their_need = s.their_need;
      their_have = s.their_have;
      sent_hashes = sent_after s b;
      in_flight = true;
      have_responded = true;
      supports_v2 = s.supports_v2;
      supports_reset = s.supports_reset;
      read_only = s.read_only;
      peer_read_only = s.peer_read_only;
      needs_reset = false;
    }

-- The reset message: V1, heads, a have that claims nothing, and only the flag that resets are understood.
unfoldable pub reset_of : List Row → Plan
reset_of t =
    record {
      version = V1;
      heads = heads t;
      need = [];
      haves = record { last_sync = []; filter = filter_of4 0 default_bits default_probes [] } ∷ [];
      body = list_of [];
      flags = flags_of supports_sync_reset;
    }

-- 02, M-110: a pick breaks no rule, or none is looked at.
abbrev pub is_fine : Result Unit ℕ → Bool
is_fine (Ok tt) = true
is_fine (Err place) = false

-- 02, M-110: 17 with its place for a pick that isn't accepted, else the message.
abbrev pub unless_broken : Result Unit ℕ → Planned → Planned
unless_broken (Ok tt) p = p
unless_broken (Err place) p = refused (BadPick place)

-- The stages for what goes, in 01's order of refusals and, for 17, in 02's: 4 for the need list, even before a reset or silence; a reset; silence; 4 for the
-- sent hashes; 17 for the pick; the message. A pick that isn't accepted is no silence, even an empty one, so that it is refused.
unfoldable pub plan_body : ℕ → ℕ → List Row → List Waiting → State → Body → Result Unit ℕ → Planned
plan_body bits probes t w s b c =
    cond (ltb sizes.hashes (length (need_of t w s.read_only (heard s.their_heads))))
    (refused (PastSize 0))
    (cond (unknown_sync t s.their_have)
    (reset (reset_of t))
    (cond (silence t s (is_fine c && empty b.hashes))
    silent
    (cond (ltb sizes.sent_hashes (length (sent_after s b)))
    (refused (PastSize 0))
    (unless_broken c (says (plan_of bits probes t w s b) (planned t s b))))))

-- The plan: all of what the session asks for goes, and no pick is looked at.
abbrev pub plan : ℕ → ℕ → List Row → List Waiting → State → Planned
plan bits probes t w s = plan_body bits probes t w s (body_of t s) (Ok tt)

-- 02, M-110. What goes with a pick: the document whole, or the pick. It is decided on all that the session asks for whether the body is the document.
unfoldable pub body_picked : List Row → State → List ℕ → Body
body_picked t s pick = cond (body_of t s).document (body_of t s) (list_of pick)

-- 02, M-110. The check of a pick, against what is to be sent by list; with a document none is looked at.
unfoldable pub body_checked : List Row → State → List ℕ → ℕ → List ℕ → Result Unit ℕ
body_checked t s rowSizes budget pick =
    cond (body_of t s).document (Ok tt) (pick_checked t (body_of t s).hashes rowSizes budget pick)

-- 02, M-110: the plan with a pick, one size a row and a budget.
abbrev pub plan_picked : ℕ → ℕ → List ℕ → ℕ → List Row → List Waiting → State → List ℕ → Planned
plan_picked bits probes rowSizes budget t w s pick =
    plan_body bits probes t w s (body_picked t s pick) (body_checked t s rowSizes budget pick)

-- The session after planning: a message's, and after anything else as it was.
abbrev pub after : Planned → State → State
after (refused r) s = s
after silent s = s
after (reset p) s = s
after (says p s') s = s'
