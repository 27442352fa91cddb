-- The message that is written for a plan (src/sync/message_builder.rs of the crate), and what its peer hears of it. 01, Session: the host lends the bytes of
-- changes and of the document, and writing is a call of its own.
use Rattle.std.specs.Prelude.{ℕ, Bool, cond, not, ◌||◌, List, [], ◌∷◌, map, eqb, Some}
use Rattle.bloom.specs.Filter.{Filter, filter_of4, default_bits, default_probes}
use Rattle.bloom.specs.Have.{Have}
use Rattle.message.specs.Message.{Message, joined}
use Rattle.message.specs.declared.version.MessageVersion.TheVariants.{V1, V2}
use Rattle.message.specs.declared.version.MessageVersion.{MessageVersion}
use Rattle.session.specs.Plan.{Plan, Body, empty}
use Rattle.session.specs.Receive.{Said}

-- What the host lends: the bytes of a change by its hash, and those of the whole document.
pub record Host : Type 0 where
  pub change : ℕ → List ℕ
  pub document : List ℕ

-- The chunks of a list: in V1 one a change; in V2 all in one, and none for no change.
unfoldable pub list_chunks : Host → MessageVersion → List ℕ → List (List ℕ)
list_chunks host V1 hashes = map host.change hashes
list_chunks host V2 [] = []
list_chunks host V2 (h ∷ hs) = joined host.change (h ∷ hs) ∷ []

-- The chunks of a message: the whole document, or those of a list.
unfoldable pub chunks_for : Host → Plan → List (List ℕ)
chunks_for host p = cond p.body.document (host.document ∷ []) (list_chunks host p.version p.body.hashes)

-- The message that is written for a plan.
unfoldable pub message_for : Host → Plan → Message
message_for host p =
    record {
      version = p.version;
      heads = p.heads;
      need = p.need;
      haves = p.haves;
      chunks = chunks_for host p;
      flags = Some p.flags;
    }

-- A filter as it is heard: one without entries is written as no bytes, which say the default.
unfoldable pub heard_filter : Filter → Filter
heard_filter f = cond (eqb f.entries 0) (filter_of4 0 default_bits default_probes []) f

-- A have as it is heard.
abbrev pub heard_have : Have → Have
heard_have v = record { last_sync = v.last_sync; filter = heard_filter v.filter }

-- Haves as they are heard.
unfoldable pub haves_heard : List Have → List Have
haves_heard [] = []
haves_heard (v ∷ vs) = heard_have v ∷ haves_heard vs

-- A body has chunks if it is the document or names a hash.
abbrev pub carries : Body → Bool
carries b = b.document || not (empty b.hashes)

-- What a plan's message says to the session that hears it.
unfoldable pub heard_said : Plan → Said
heard_said p =
    record {
      heads = p.heads;
      need = p.need;
      haves = haves_heard p.haves;
      flags = Some p.flags;
      chunks = carries p.body;
    }
