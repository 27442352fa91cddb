-- Planning as exported calls: their answer as words, and the session's words at exit.
use Rattle.std.specs.Prelude.{ℕ, List, [], ◌∷◌, ◌≡◌, Result, Ok, Err}
use Rattle.message.specs.declared.version.MessageVersion.{MessageVersion}
use Rattle.message.specs.declared.version.MessageVersion.TheVariants.{V1, V2}
use Rattle.session.specs.Plan.{Planned}
use Rattle.session.specs.PlanCall.{Buffers, planned_roomed, planned_rooms, planned_answer, put_into, planned_lists}
use Rattle.session.specs.declared.plan_answer.PlanAnswer.{PlanAnswer}
use Rattle.session.specs.declared.plan_answer.PlanAnswer.TheVariants.{Silent, Reset, Says}
use Rattle.session.specs.declared.plan_answer.Stated.{Stated}
use Rattle.rules.specs.Refusal.{number_of, value_of}
use Rattle.call_words.specs.SessionWords.{flag_word, session_words}
use Rattle.session_state.specs.Value.{Lent}
use Rattle.rules.specs.declared.refusal.Refusal.{Refusal}

-- A version as a word.
abbrev pub version_number : MessageVersion → ℕ
version_number V1 = 1
version_number V2 = 2

-- What is stated: 1 a reset, 2 a message; the have's last-sync hashes stand at place 0 of its bytes.
abbrev pub stated_words : ℕ → Stated → List ℕ
stated_words what p =
    0
    ∷ what
    ∷ version_number p.version
    ∷ p.flags.0
    ∷ flag_word p.document
    ∷ p.heads
    ∷ p.need
    ∷ p.haves
    ∷ 0
    ∷ p.syncs
    ∷ p.filter.entries
    ∷ p.filter.bits
    ∷ p.filter.probes
    ∷ p.filter.place
    ∷ p.filter.size
    ∷ p.hashes
    ∷ []

-- A plan as sixteen words: a refusal, silence (all 0), a reset (1) or a message (2) with its numbers.
abbrev pub planned_words : Result PlanAnswer Refusal → List ℕ
planned_words (Err r) = number_of r ∷ value_of r ∷ 0 ∷ 0 ∷ 0 ∷ 0 ∷ 0 ∷ 0 ∷ 0 ∷ 0 ∷ 0 ∷ 0 ∷ 0 ∷ 0 ∷ 0 ∷ 0 ∷ []
planned_words (Ok Silent) = 0 ∷ 0 ∷ 0 ∷ 0 ∷ 0 ∷ 0 ∷ 0 ∷ 0 ∷ 0 ∷ 0 ∷ 0 ∷ 0 ∷ 0 ∷ 0 ∷ 0 ∷ 0 ∷ []
planned_words (Ok (Reset p)) = stated_words 1 p
planned_words (Ok (Says p s)) = stated_words 2 p

-- Only a message changes the session.
abbrev pub planned_session : Result PlanAnswer Refusal → List ℕ → List ℕ
planned_session (Err r) before = before
planned_session (Ok Silent) before = before
planned_session (Ok (Reset p)) before = before
planned_session (Ok (Says p s)) before = session_words s

-- What a call leaves that plans this, once there is room: its answer, the session's words and lists, and every buffer.
pub record PlanAnswered (p : Planned) (session₀ session₁ : List ℕ) (l l' : Lent) (before after : Buffers) (words : List ℕ) : Type 0 where
  pub answer : words ≡ planned_words (planned_answer (planned_roomed (planned_rooms before l) p))
  pub session : session₁ ≡ planned_session (planned_answer (planned_roomed (planned_rooms before l) p)) session₀
  pub lists : l' ≡ planned_lists (planned_roomed (planned_rooms before l) p) l
  pub buffers : after ≡ put_into (planned_roomed (planned_rooms before l) p) before
