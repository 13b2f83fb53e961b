use Rattle.std.proofs.Common.{refl, ap, arith}
use Rattle.clv_io.specs.Holdings.{held_by}
use Rattle.clv_io.proofs.Shelves.{room_kept}
use Rattle.clv_io.proofs.steady.SteadyFilesFiles.store.Goals as goal

pub returns-in-Ok-clause-stores : goal.returns-in-Ok-clause-stores
returns-in-Ok-clause-stores c =
    let gets = c.in-Ok.ensures.ok in
    record {
      kind = record {
        tells = refl;
        is_steady = refl;
        room = room_kept c.args.self.now.shelf c.write.new.self c.args.name.now c.args.bytes.now gets c.in-Ok.ensures.fits;
        later = omega arith;
      };
      others = λ tells other apart. ap held_by (gets.others other apart);
      stored = λ tells. ap held_by gets.here;
      partial = λ tells. tt;
      failed = tt;
      full = λ steady. tt;
    }
