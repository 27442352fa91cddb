-- Demand 3 holds. Assumes nothing.
use Rattle.walk_sessions.proofs.Corollary.{corollary}
use Rattle.walk_picked.proofs.PickedWalkLaws.{m110}
use Rattle.walk_sessions.proofs.Passing.{passed_walks}
use Rattle.walk_sessions.proofs.Talk.{theorem_2, sessions_01, sessions_picked_lem}
use Rattle.walk.proofs.Theorem1.{theorem_1}
use Rattle.walk.proofs.Walk01.{walk01_walks, round01_rounds, walk01_new, walk01_goes}
use Rattle.walk_hosts.specs.Demand.{Demand}
use Rattle.walk_hosts.proofs.Contracts.{contracts}
use Rattle.walk_hosts.proofs.Goes.{calls_go}
use Rattle.walk_hosts.proofs.States.{calls_state}
use Rattle.walk_hosts.proofs.Talk.{calls_are_steps, calls_corollary}

pub demand : Demand
demand =
    record {
      ends = theorem_1;
      walk = walk01_walks;
      rounds = round01_rounds;
      new = walk01_new;
      walks = walk01_goes;
      picks = m110;
      passed = passed_walks;
      sessions = theorem_2;
      sessions01 = sessions_01;
      sessions_picked = sessions_picked_lem;
      caught_up = corollary;
      calls = calls_are_steps;
      states = calls_state;
      called = calls_corollary;
      goes = calls_go;
      contracts = contracts;
    }
