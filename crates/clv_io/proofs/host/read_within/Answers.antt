use Rattle.std.proofs.Common.{◌≡◌, ℕ, ◌+◌, ◌-◌, List, ◌++◌, length, Option, Err, ap, arith, length-append}
use Rattle.std.proofs.lemmas.Result.{err_from_is_err_and}
use Rattle.std.proofs.KnownBytes.{Consumes-trans}
use Rattle.std.specs.Io.KnownBytes.{Consumes}
use Rattle.clv_io.specs.declared.files.LoadFault.{LoadFault}
use Rattle.clv_io.specs.declared.files.LoadFault.TheVariants.{TooLarge}
use Rattle.clv_io.specs.Host.{ReadsChunk, ReadsWithin}
use Rattle.clv_io.proofs.host.read_within.Goals as goal

-- a read that fails leaves what was taken before it and by it
stopped : (left mid left' : Option (List ℕ)) (text new : List ℕ) (max spare : ℕ) (fault : LoadFault) → Consumes left mid text → length text + spare ≡ max → ReadsChunk mid left' text new (spare + 1) (Err fault) → ReadsWithin left left' max (Err fault)
stopped left mid left' text new max spare fault taken room chunk = record {
  taken = (text ++ chunk.chunk, omega (arith, length-append text chunk.chunk, chunk.within), Consumes-trans left mid left' text chunk.chunk taken chunk.taken);
  whole = tt;
  end = tt;
  within = tt;
  over = λ seen is. let same : fault ≡ TooLarge seen = cc is in absurd (chunk.fault seen (ap Err same));
}

pub returns-in_err-read_chunk : goal.returns-in_err-read_chunk
returns-in_err-read_chunk g c =
    let p = err_from_is_err_and c.from_residual.result c.from_residual.ensures.1 in
    let fits : length c.loop-text.text + (c.args.max - c.len-in-loop-text.result) ≡ c.args.max = omega arith in
    rw (p.1, p.2) (stopped _ _ _ _ _ _ _ _ c.loop-text.invariant.0 fits c.in_err-read_chunk.ensures)
