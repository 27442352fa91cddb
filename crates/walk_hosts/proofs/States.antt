-- The calls state the walk's words: what a plan call puts is the step's plan (`speaking-said`), and by theorem 2 the step's plan is what the walk states.
-- Assumes nothing.
use Prim.Native.Nat.{ℕ}
use mathlib.Core.List.{List}
use mathlib.Core.Path.{◌≡◌}
use native.Mathlib.Omega.{arith}
use Rattle.bloom.specs.declared.setting.Setting.{Setting}
use Rattle.session.specs.Plan.{Plan, Planned}
use Rattle.session_state.specs.Session.{State}
use Rattle.walk_sessions.specs.Passing.{Passes}
use Rattle.walk_sessions.specs.Talk.{asked, answered}
use Rattle.walk_sessions.proofs.Talk.{theorem_2}
use Rattle.walk_hosts.specs.Calls.{plan_in, Both, GoodSettings, CallsRound, asked_in, answered_in, AreSessions}
use Rattle.walk_hosts.specs.States.{CallsState}
use Rattle.walk_hosts.proofs.Speaking.{speaking_said}
use Rattle.walk_hosts.proofs.Talk.{calls_are_steps, held_mid, tables_given}
use Rattle.session.specs.Written.{Host}

module _ (setA set_b : ℕ → Setting) (keep : GoodSettings setA set_b) (pass : ℕ → Passes) (a : List ℕ) (b w u : ℕ → List ℕ) (hosts : ℕ → Host) (k : ℕ) (s s' : Both)
    (r : CallsRound setA set_b pass a b w u hosts k s s') (before : AreSessions setA set_b pass a b w u hosts k s) where
  asks_so : (q : Plan) (z : State) → asked_in setA set_b pass a b w u hosts k ≡ Planned.says q z → plan_in r.asks.answer r.asks.out' ≡ q
  unfolding asked
  asks_so q z e = (speaking_said (set_b k) (keep.at_b k) Passes.all (hosts k) (b k) (w k) r.table_b r.waits_b _ _ _ before.holds_b r.question r.asks q z e).read

  answers_so : (q : Plan) (z : State) → answered_in setA set_b pass a b w u hosts k ≡ Planned.says q z → plan_in r.answers.answer r.answers.out' ≡ q
  unfolding answered
  answers_so q z e =
      let held = held_mid setA set_b keep pass a b w u hosts k s s' r before in
      (speaking_said (setA k) (keep.at_a k) (pass k) (hosts k) a (u k) r.table_a r.waits_a _ _ _ held r.reply r.answers q z e).read

pub calls_state : CallsState
calls_state setA set_b keep pass a b w u hosts n talk tabled part nothing fits k h underway accepts =
    let stated = (theorem_2 setA set_b pass _ _ _ _ hosts (tables_given setA set_b keep pass a b w u hosts tabled part nothing fits)).stated k underway accepts in
    let before = calls_are_steps setA set_b keep pass a b w u hosts n talk k (omega arith) in
    record {
      stated = stated;
      asks = asks_so setA set_b keep pass a b w u hosts k _ _ (talk.made k h) before stated.round.said stated.round.next stated.round.speaks;
      answers = answers_so setA set_b keep pass a b w u hosts k _ _ (talk.made k h) before stated.round.reply stated.round.next' stated.round.replies;
    }
