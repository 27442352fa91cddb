-- 01's examples, all of them. Assumes nothing.
use Rattle.examples.specs.Examples.{Examples}
use Rattle.examples.proofs.Filters.{seven_probes, small_bytes, false_yes, right_no, one_probe, no_bits, probe_too_many, most_probes}
use Rattle.examples.proofs.Messages.{reads, written, writes}
use Rattle.examples.proofs.Premises.{premises_met}
use Rattle.examples.proofs.Rows.{beyond_b, head_d, need_c, need_d, need_c_twice, needs_alone}

pub examples : Examples
examples =
    record {
      p1 = (reads.0, written.0);
      p2 = reads.1;
      p3 = (reads.2, written.1);
      p4 = writes.0;
      p5 = (writes.1, writes.2);
      p6 = λ h w. (seven_probes h w, small_bytes h w);
      p7 = λ h w. (λ g v. false_yes h g w v, λ g v. right_no h g w v);
      p8 = no_bits;
      p9 = λ s at end x y. (probe_too_many s at end x y, most_probes s at end x y);
      p10 = one_probe;
      p11 = λ a b c d o. (beyond_b a b c d o, head_d a b c d o);
      p12 = λ a b c d v vs o m. (need_c a b c d o v vs m, need_d a b c d o v vs m, need_c_twice a b c d o v vs m, needs_alone a b c d o);
      met = premises_met;
    }
