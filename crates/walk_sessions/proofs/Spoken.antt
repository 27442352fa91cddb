-- What is heard of a plan that a unit makes which takes changes and asks nobody to forget: its words, read from its bytes. Assumes nothing.
use Prim.Native.Nat.{ℕ, ◌+◌, ◌≤◌}
use mathlib.Core.Bool.{true, false}
use mathlib.Core.List.{List, []}
use mathlib.Core.Path.{◌≡◌, refl, ap, ◌∙◌}
use native.Mathlib.Nat.{le_trans}
use native.Mathlib.Omega.{arith}
use lib.ListN.{length, length-replicate}
use Rattle.bloom.specs.Have.{Have}
use Rattle.table_graph.proofs.BelowLaws.{beyond_few}
use Rattle.table_graph.specs.Graph.{heads, beyond}
use Rattle.session.proofs.GoodLaws.{heads_sound}
use Rattle.session.specs.GoodState.{SoundTable, SoundHaves, GoodState, SoundSaid}
use Rattle.session.specs.Receive.{Said, receive, receive_bytes}
use Rattle.message.specs.Flags.{sync_reset, read_only_flag, has_flag}
use Rattle.message.specs.Message.{counted, message_bytes}
use Rattle.message.specs.Sound.{Each, SoundHashes, SoundHave, SoundMessage}
use Rattle.message.specs.declared.flags.MessageFlags.{MessageFlags}
use Rattle.waiting_missing.specs.Missing.{missing}
use Rattle.hash_order.specs.Order.{member, every}
use Rattle.bloom_probe.proofs.FieldLaws.{length_add_hashes}
use Rattle.bloom_probe.specs.Build.{filter_of}
use Rattle.rules.proofs.Cases.{split}
use Rattle.rules.specs.Sizes.{sizes}
use Rattle.session.proofs.PlanLaws.{have_one, have_none, have_or_none, said_flags}
use Rattle.session.specs.Plan.{Body, Plan, heard, have_of, haves_for, list_of, heads_for, flags_for, need_of, plan_of}
use Rattle.session_state.specs.Session.{State}
use Rattle.table.specs.Table.{Row}
use Rattle.waiting.specs.Waiting.{Waiting}
use Rattle.wire.specs.Item.{prefixed_bytes}
use Rattle.walk_sessions.proofs.Message.{all_sound, length_heard, crosses}
use Rattle.walk_sessions.proofs.Sides.{Fixed}
use Rattle.walk_sessions.proofs.Small.{most_words, message_fits, no_chunk_small}
use Rattle.session.specs.Written.{Host, chunks_for, message_for, haves_heard, heard_said}
use Rattle.session.proofs.WrittenLaws.{chunks_few, no_chunks}
use Rattle.std.specs.Prelude.{Some}

-- Flags that say neither read-only nor reset.
abbrev pub plain_flags : MessageFlags
plain_flags = flags_for false false

pub plain_writes : has_flag plain_flags read_only_flag ≡ false
unfolding flags_for
plain_writes = refl

pub plain_keeps : has_flag plain_flags sync_reset ≡ false
unfolding flags_for
plain_keeps = refl

-- These words are heard, with plain flags.
pub record HeardWords (heads need : List ℕ) (haves : List Have) (m : Said) : Type 0 where
  pub heads_are : m.heads ≡ heads
  pub need_are : m.need ≡ need
  pub haves_are : m.haves ≡ haves_heard haves
  pub flags_are : m.flags ≡ Some plain_flags
  pub sound : SoundSaid m

pub hears_as : {heads need need' : List ℕ} {haves haves' : List Have} {m : Said} → HeardWords heads need haves m → need ≡ need' → haves ≡ haves'
    → HeardWords heads need' haves' m
hears_as x e f =
    record {
      heads_are = x.heads_are;
      need_are = x.need_are ∙ e;
      haves_are = x.haves_are ∙ ap haves_heard f;
      flags_are = x.flags_are;
      sound = x.sound;
    }

-- b is what goes
module _ (bits probes : ℕ) (t : List Row) (w : List Waiting) (s : State) (b : Body) where
  abbrev q : Plan
  q = plan_of bits probes t w s b

  abbrev asked : List ℕ
  asked = missing t w (heard s.their_heads)

  abbrev given : List Have
  given = haves_for bits probes t asked (heard s.their_heads) s.shared_heads

  -- A plan of such a unit.
  pub record Spoken : Type 0 where
    -- what it says
    pub heads_are : q.heads ≡ heads t
    pub need_are : q.need ≡ asked
    pub haves_are : q.haves ≡ given
    pub body_is : q.body ≡ b
    -- what is heard of it
    pub hears : HeardWords (heads t) asked given (heard_said q)
    -- a message within its size is heard so
    pub crosses : (host : Host) → length (message_bytes (message_for host q)) ≤ sizes.message
        → (before : ℕ) (t' : List Row) (s' : State)
        → before ≤ length t'
        → receive_bytes true before t' s' (message_bytes (message_for host q)) ≡ receive true before t' s' (heard_said q)
    -- it is within its size if its chunks leave room, and so if it carries nothing
    pub fits : (host : Host) → most_words + length (counted prefixed_bytes (chunks_for host q)) ≤ sizes.message
        → length (message_bytes (message_for host q)) ≤ sizes.message
    pub small : b ≡ list_of [] → (host : Host) → length (message_bytes (message_for host q)) ≤ sizes.message

  module _ (A : List Row) (fixed : Fixed bits probes A) (sound : SoundTable t) (few : length t ≤ length A) (good : GoodState s)
      (writes : s.read_only ≡ false) (keeps : s.needs_reset ≡ false) (needs : SoundHashes asked) (goes : length b.hashes ≤ sizes.hashes_to_send) where
    plan_heads : q.heads ≡ heads t
    unfolding plan_of heads_for
    plan_heads = rw keeps

    plan_need : q.need ≡ asked
    unfolding plan_of need_of
    plan_need = rw writes

    plan_haves : q.haves ≡ given
    unfolding plan_of need_of
    plan_haves = rw writes

    plan_flags : q.flags ≡ plain_flags
    unfolding plan_of
    plan_flags = rw (writes, keeps)

    plan_body_lem : q.body ≡ b
    unfolding plan_of
    plan_body_lem = refl

    have_sound : SoundHave (have_of bits probes t s.shared_heads)
    unfolding have_of filter_of
    have_sound =
        let l : List ℕ = s.shared_heads in
        record {
          last_sync = good.shared;
          filter = rw (length_add_hashes, length-replicate) (fixed.setting (length (beyond t l)) (le_trans (beyond_few t l) few));
        }

    given_sound : SoundHaves given
    unfolding Each
    given_sound =
        let l : List ℕ = heard s.their_heads in
        split (every (λ x. member x l) asked)
        (λ e. rw (have_one bits probes t asked l s.shared_heads e) (record { few = omega arith; each = (have_sound, tt) }))
        (λ e. rw (have_none bits probes t asked l s.shared_heads e) (record { few = omega arith; each = tt }))

    heads_said : SoundHashes q.heads
    heads_said = rw plan_heads (heads_sound t sound)

    need_said : SoundHashes q.need
    need_said = rw plan_need needs

    haves_said : SoundHaves q.haves
    haves_said = rw plan_haves given_sound

    message_said : (host : Host) → length (message_bytes (message_for host q)) ≤ sizes.message → SoundMessage (message_for host q)
    unfolding message_for
    message_said host size =
        record {
          heads = heads_said;
          need = need_said;
          few = haves_said.few;
          haves = haves_said.each;
          chunks = chunks_few host q (rw plan_body_lem goes);
          size = size;
        }

    said_fits : (host : Host) → most_words + length (counted prefixed_bytes (chunks_for host q)) ≤ sizes.message
        → length (message_bytes (message_for host q)) ≤ sizes.message
    unfolding message_for
    said_fits host room =
        le_trans
        (message_fits (message_for host q) q.flags heads_said need_said haves_said.each
        (rw plan_haves (have_or_none bits probes t asked (heard s.their_heads) s.shared_heads))
        refl)
        room

    said_small : b ≡ list_of [] → (host : Host) → length (message_bytes (message_for host q)) ≤ sizes.message
    said_small none host = said_fits host (rw (no_chunks host q (plan_body_lem ∙ none)) no_chunk_small)

    said_heard : HeardWords (heads t) asked given (heard_said q)
    unfolding heard_said
    said_heard =
        record {
          heads_are = plan_heads;
          need_are = plan_need;
          haves_are = ap haves_heard plan_haves;
          flags_are = ap Some plan_flags;
          sound =
              record {
                heads = heads_said;
                need = need_said;
                haves = record { few = rw (length_heard q.haves) haves_said.few; each = all_sound q.haves haves_said.each };
              };
        }

    pub spoken : Spoken
    spoken =
        record {
          heads_are = plan_heads;
          need_are = plan_need;
          haves_are = plan_haves;
          body_is = plan_body_lem;
          hears = said_heard;
          crosses = λ host size. crosses host q (message_said host size) (rw plan_flags (said_flags false false)) true;
          fits = said_fits;
          small = said_small;
        }
