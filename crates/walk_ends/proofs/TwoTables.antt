-- M-111 of any two good tables that agree: their joint table is one as BothEnds wants it, and what is lacking of it is what is lacking of the other's.
-- Assumes nothing.
use Rattle.walk_ends.specs.Joint.{M111, joint_of}
use Rattle.walk_ends.proofs.BothEnds.{both_ends}
use Rattle.walk_ends.proofs.Exchanging.{turns_exchange}
use Rattle.walk_ends.proofs.JointLaws.{joint_of_lem, lacks_x_lem, lacks_y_lem}

pub m111 : M111
m111 =
    record {
      tables =
          λ X Y goodX goodY agree.
          record {
            joint = joint_of_lem X Y goodX goodY agree;
            lacks_x = lacks_x_lem X Y goodX goodY agree;
            lacks_y = lacks_y_lem X Y goodX goodY agree;
            ends = both_ends (joint_of X Y) X Y (joint_of_lem X Y goodX goodY agree);
          };
      any = both_ends;
      turns = turns_exchange;
    }
