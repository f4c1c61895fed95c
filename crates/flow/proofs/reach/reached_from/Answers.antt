use Rattle.flow.proofs.ReachLaws.{visited_sound, visited_whole}
use Rattle.flow.proofs.reach.reached_from.Goals as goal

pub returns : goal.returns
returns c =
    let words = c.args.words.now in
    let v = c.visit-devices.ensures.value in
    record {
      value = λ g f. record {
        sound = visited_sound g words c.args.device.number c.visit-devices.result f v;
        whole = visited_whole g words c.args.device.number c.visit-devices.result f v;
        counted = c.count.ensures.value;
      };
    }
