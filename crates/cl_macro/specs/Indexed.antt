-- A map that finds the last entry of each name.
use Rattle.std.specs.Prelude.{◌≡◌, ℕ, List, Option, bytes_eq}
use Rattle.std.specs.Global.{Vec}
use Rattle.std.specs.declared.hash.FoldHasher.{FoldHasher}
use Rattle.std.specs.declared.hash.BuildHasherDefault.{BuildHasherDefault}
use Rattle.std.specs.HashMap.{get_by, HashMap}
use Rattle.cl_macro.specs.declared.macros.Entry.{Entry}
use Rattle.cl_macro.specs.Names.{Name}
use Rattle.cl_macro.specs.Tables.{latest}

-- Each name is mapped to where its last entry stands.
pub record IsIndexed (entries : List Entry) (map : HashMap (Vec ℕ) ℕ (BuildHasherDefault FoldHasher)) : Type 0 where
  pub each : (n : Name) → get_by (λ k. bytes_eq n k.items) map ≡ latest n entries
