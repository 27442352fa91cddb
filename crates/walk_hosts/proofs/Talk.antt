-- A talk of calls is the talk of steps: from two fresh sessions on, both memories hold the sessions of Talk.antt before each round, by one round after the
-- other. So what theorem 2 and its corollary say of the steps is said of the calls. Assumes nothing.
use Prim.Native.Nat.{ℕ, zero, suc, ◌≤◌, ◌<◌}
use mathlib.Core.List.{List, []}
use mathlib.Core.Path.{◌≡◌, refl, ap, ◌∙◌}
use native.Mathlib.Nat.{le_trans}
use native.Mathlib.Omega.{arith}
use lib.ListN.{length, get_or}
use Rattle.bloom.specs.declared.setting.Setting.{Setting}
use Rattle.session.specs.Receive.{left}
use Rattle.session_check.proofs.GoodSessions.{fresh_good}
use Rattle.walk_hosts.specs.Memory.{Memory, Holds, Tabled, Fresh}
use Rattle.rules.specs.Hash.{hashes_at}
use Rattle.session.specs.Plan.{after}
use Rattle.call_words.specs.SessionWords.{session_of}
use Rattle.call_words.proofs.WordLaws.{words_back}
use Rattle.session_state.specs.Counts.{fresh_counts}
use Rattle.session_state.specs.Session.{State, fresh}
use Rattle.session_state.specs.Value.{heard_hashes, heard_haves}
use Rattle.table.specs.TableBytes.{table_of}
use Rattle.table.specs.Table.{Row}
use Rattle.walk_sessions.specs.Passing.{Passes, FitIn}
use Rattle.walk_sessions.specs.Talk.{Pair, goes, asked, to_a, answered, to_b, pair_at, Reached, Granted, Tables, Ended}
use Rattle.walk_sessions.proofs.Corollary.{corollary}
use Rattle.waiting.specs.WaitingBytes.{waiting_of}
use Rattle.waiting.specs.Waiting.{Waiting}
use Rattle.walk.specs.Round.{Part}
use Rattle.walk.specs.Walk.{lacking}
use Rattle.walk_hosts.specs.Calls.{
  Both,
  SaidSo,
  GoodSettings,
  CallsRound,
  TalkOfCalls,
  sessions,
  asked_in,
  answered_in,
  AreSessions,
  AllAnswered,
  CallsEnd,
  CallsAreSteps,
  CallsCorollary,
}
use Rattle.walk_hosts.proofs.Planning.{table_sound}
use Rattle.walk_hosts.proofs.OneMessage.{message_heard, message_answered}
use Rattle.walk_hosts.proofs.Speaking.{speaking_holds}
use Rattle.session.specs.Written.{Host}

-- fresh words over any lists of limit size hold the fresh session
pub fresh_holds : (m : Memory) → Fresh m → Holds fresh m
unfolding hashes_at heard_hashes heard_haves
fresh_holds m f =
    record {
      counts = ap session_of f.words ∙ words_back fresh_counts;
      stays = record { good = fresh_good m.lists; value = refl };
      bytes = f.bytes;
      room = f.room;
    }

module _ (setA set_b : ℕ → Setting) (keep : GoodSettings setA set_b) (pass : ℕ → Passes) (a : List ℕ) (b w u : ℕ → List ℕ) (hosts : ℕ → Host) where
  abbrev A : List Row
  A = table_of a

  abbrev B : ℕ → List Row
  B = λ k. table_of (b k)

  abbrev W : ℕ → List Waiting
  W = λ k. waiting_of (w k)

  abbrev U : ℕ → List Waiting
  U = λ k. waiting_of (u k)

  abbrev pair : ℕ → Pair setA set_b pass A B W U hosts
  pair = sessions setA set_b pass a b w u hosts

  -- ---- one round

  module _ (k : ℕ) (s s' : Both) (r : CallsRound setA set_b pass a b w u hosts k s s') (before : AreSessions setA set_b pass a b w u hosts k s) where
    abbrev x : State
    x = (pair k).at_a

    abbrev y : State
    y = (pair k).at_b

    abbrev heard_a : State
    heard_a = left (to_a setA set_b pass A B W U hosts k (pair k)) x

    -- B has spoken
    spoken_b : Holds (after (asked_in setA set_b pass a b w u hosts k) y) r.mid_b
    unfolding asked
    spoken_b = speaking_holds (set_b k) (keep.at_b k) Passes.all (hosts k) (b k) (w k) r.table_b r.waits_b y s.at_b r.mid_b before.holds_b r.question r.asks

    -- A has heard it
    pub held_mid : Holds heard_a r.mid_a
    unfolding asked to_a
    held_mid =
        message_heard (set_b k) (keep.at_b k) Passes.all (hosts k) (b k) (w k) r.table_b r.waits_b y s.at_b r.mid_b before.holds_b r.question r.asks
        a r.table_a (length A) x s.at_a r.mid_a before.holds_a r.hears

    -- A has answered
    spoken_a : Holds (after (answered_in setA set_b pass a b w u hosts k) heard_a) s'.at_a
    unfolding answered
    spoken_a = speaking_holds (setA k) (keep.at_a k) (pass k) (hosts k) a (u k) r.table_a r.waits_a heard_a r.mid_a s'.at_a held_mid r.reply r.answers

    -- B has heard that
    held_b : Holds (left (to_b setA set_b pass A B W U hosts k (pair k)) (after (asked_in setA set_b pass a b w u hosts k) y)) s'.at_b
    unfolding asked answered to_b
    held_b =
        message_heard (setA k) (keep.at_a k) (pass k) (hosts k) a (u k) r.table_a r.waits_a heard_a r.mid_a s'.at_a held_mid r.reply r.answers
        (b (suc k)) r.loaded_b (length (B k)) _ r.mid_b s'.at_b spoken_b r.takes

    pub next : AreSessions setA set_b pass a b w u hosts (suc k) s'
    unfolding pair_at
    next = record { holds_a = spoken_a; holds_b = held_b }

  -- ---- all rounds

  are_sessions : (n : ℕ) (talk : TalkOfCalls setA set_b pass a b w u hosts n) (k : ℕ) → k ≤ n → AreSessions setA set_b pass a b w u hosts k (talk.at k)
  unfolding pair_at
  are_sessions n talk zero h = record { holds_a = fresh_holds _ talk.fresh_a; holds_b = fresh_holds _ talk.fresh_b }
  are_sessions n talk (suc k) h = next k _ _ (talk.made k (omega arith)) (are_sessions n talk k (omega arith))

  -- ---- the corollary

  -- what is given of the bytes is what theorem 2 asks of the tables
  pub tables_given : Tabled a → Part A (B 0) → W 0 ≡ [] → ((k : ℕ) → FitIn A (pass k)) → Tables setA set_b pass A B W U hosts
  tables_given tabled part nothing fits =
      let sound = table_sound a tabled in
      record {
        good = sound.good;
        limit = sound.few;
        hashes = sound.are;
        part = part;
        nothing = nothing;
        fits = fits;
        setting_a = λ k n h. (keep.at_a k).each n (le_trans h sound.few);
        setting_b = λ k n h. (keep.at_b k).each n (le_trans h sound.few);
      }

  module _ (n : ℕ) (talk : TalkOfCalls setA set_b pass a b w u hosts n) (tabled : Tabled a) (part : Part A (B 0)) (nothing : W 0 ≡ [])
      (fits : (k : ℕ) → FitIn A (pass k))
      (all : (k : ℕ) → Reached setA set_b pass A B W U hosts k → Granted setA set_b pass A B W U hosts k) where
    end : Ended setA set_b pass A B W U hosts (lacking A (B 0))
    end = corollary setA set_b pass A B W U hosts (tables_given tabled part nothing fits) all

    module _ (k : ℕ) (up_to : k ≤ end.last) (h : k < n) where
      abbrev r : CallsRound setA set_b pass a b w u hosts k (talk.at k) (talk.at (suc k))
      r = talk.made k h

      before : AreSessions setA set_b pass a b w u hosts k (talk.at k)
      before = are_sessions n talk k (omega arith)

      question_answered : SaidSo r.asks.answer r.asks.written r.asks.out' (goes (asked_in setA set_b pass a b w u hosts k))
          × (get_or r.hears.answer 0 0 ≡ 0)
      unfolding asked to_a
      question_answered =
          message_answered (set_b k) (keep.at_b k) Passes.all (hosts k) (b k) (w k) r.table_b r.waits_b _ _ _ before.holds_b r.question r.asks
          a r.table_a (length A) _ _ _ before.holds_a r.hears _ _ _ (end.asks k up_to).2 (end.hears k up_to).1

      reply_answered : SaidSo r.answers.answer r.answers.written r.answers.out' (goes (answered_in setA set_b pass a b w u hosts k))
          × (get_or r.takes.answer 0 0 ≡ 0)
      unfolding answered to_b
      reply_answered =
          message_answered (setA k) (keep.at_a k) (pass k) (hosts k) a (u k) r.table_a r.waits_a _ _ _ (held_mid k _ _ r before) r.reply r.answers
          (b (suc k)) r.loaded_b (length (B k)) _ _ _ (spoken_b k _ _ r before) r.takes _ _ _ (end.answers k up_to).2 (end.takes k up_to).1

      all_answered : AllAnswered setA set_b pass a b w u hosts k (talk.at k) (talk.at (suc k)) r
      all_answered =
          record {
            asks = question_answered.0;
            hears = question_answered.1;
            answers = reply_answered.0;
            takes = reply_answered.1;
          }

    calls_end : CallsEnd setA set_b pass a b w u hosts n talk
    calls_end = record { ended = end; all = all_answered }

pub calls_are_steps : CallsAreSteps
calls_are_steps = are_sessions

pub calls_corollary : CallsCorollary
calls_corollary = calls_end
