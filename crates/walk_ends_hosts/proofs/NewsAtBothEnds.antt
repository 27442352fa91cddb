-- M-111 holds, of tables, sessions and calls. Assumes nothing.
use Rattle.walk_ends.proofs.TwoTables.{m111}
use Rattle.walk_ends_hosts.proofs.CallsEnds.{calls_are_units, calls_state_ends, calls_meet_ends, calls_go_ends}
use Rattle.walk_ends_hosts.specs.NewsAtBothEnds.{NewsAtBothEnds}
use Rattle.walk_ends_sessions.proofs.Meeting.{sessions_meet}
use Rattle.walk_ends_sessions.proofs.Talk.{sessions_are_ends}

pub news : NewsAtBothEnds
news =
    record {
      ends = m111;
      sessions = sessions_are_ends;
      meet = sessions_meet;
      calls = calls_are_units;
      states = calls_state_ends;
      called = calls_meet_ends;
      goes = calls_go_ends;
    }
