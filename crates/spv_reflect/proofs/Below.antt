-- What an instruction defines and the set that it names are below the bound of its ids.
use Rattle.std.proofs.Common.{◌≡◌, ℕ, ◌==◌, Bool, true, false, List, [], ◌∷◌, Option, Some, None}
use Rattle.std.specs.Prelude.{if◌then◌else◌, All}
use Rattle.std.specs.List.{flat_map, AllByRecursion}
use Rattle.std.proofs.lemmas.List.Elements.{recursion_from_All}
use Rattle.spv_module.specs.declared.module.Inst.{Inst}
use Rattle.spv_module.specs.declared.module.Operand.{Operand}
use Rattle.spv_module.specs.declared.module.Operand.TheVariants.{Id, Word, Str}
use Rattle.spv_module.specs.Words.{IsIdBelow, ids_of, operand_ids}
use Rattle.spv_module.specs.Instructions.{Said, Extended, Other, result_of, said, read_by, readings, string, import, extended, entry_point, execution_mode, void_type, int_type, vector_type, runtime_array, struct_type, pointer_type, function_type, constant, spec_constant, spec_composite, function, function_end, variable, load, store, access_chain, decorate, member_decorate, extract, add, label, return, capability, extension, memory_model}

abbrev pub set_of : Said → Option ℕ
set_of (Extended t r set number os) = Some set
set_of _ = None

abbrev pub IsSomeBelow : ℕ → Option ℕ → Type 0
IsSomeBelow bound None = Unit {0}
IsSomeBelow bound (Some n) = IsIdBelow bound n

pub record IsBelow (bound : ℕ) (s : Said) : Type 0 where
  pub result : IsSomeBelow bound (result_of s)
  pub set : IsSomeBelow bound (set_of s)

module _ (bound : ℕ) where
  abbrev AreBelow : List Operand → Type 0
  AreBelow os = AllByRecursion (IsIdBelow bound) (flat_map operand_ids os)

  string_below : (os : List Operand) → AreBelow os → IsBelow bound (string os)
  string_below (Id r ∷ Str text ∷ []) p = record { result = p.0; set = tt }
  string_below _ p = record { result = tt; set = tt }

  import_below : (os : List Operand) → AreBelow os → IsBelow bound (import os)
  import_below (Id r ∷ Str name ∷ []) p = record { result = p.0; set = tt }
  import_below _ p = record { result = tt; set = tt }

  extended_below : (os : List Operand) → AreBelow os → IsBelow bound (extended os)
  extended_below (Id t ∷ Id r ∷ Id set ∷ Word number ∷ os) p = record { result = p.1.0; set = p.1.1.0 }
  extended_below _ p = record { result = tt; set = tt }

  entry_point_below : (os : List Operand) → AreBelow os → IsBelow bound (entry_point os)
  entry_point_below (Word model ∷ Id function ∷ Str name ∷ os) p = record { result = tt; set = tt }
  entry_point_below _ p = record { result = tt; set = tt }

  execution_mode_below : (os : List Operand) → AreBelow os → IsBelow bound (execution_mode os)
  execution_mode_below (Id function ∷ Word mode ∷ os) p = record { result = tt; set = tt }
  execution_mode_below _ p = record { result = tt; set = tt }

  void_type_below : (os : List Operand) → AreBelow os → IsBelow bound (void_type os)
  void_type_below (Id r ∷ []) p = record { result = p.0; set = tt }
  void_type_below _ p = record { result = tt; set = tt }

  int_type_below : (os : List Operand) → AreBelow os → IsBelow bound (int_type os)
  int_type_below (Id r ∷ Word width ∷ Word signedness ∷ []) p = record { result = p.0; set = tt }
  int_type_below _ p = record { result = tt; set = tt }

  vector_type_below : (os : List Operand) → AreBelow os → IsBelow bound (vector_type os)
  vector_type_below (Id r ∷ Id component ∷ Word count ∷ []) p = record { result = p.0; set = tt }
  vector_type_below _ p = record { result = tt; set = tt }

  runtime_array_below : (os : List Operand) → AreBelow os → IsBelow bound (runtime_array os)
  runtime_array_below (Id r ∷ Id element ∷ []) p = record { result = p.0; set = tt }
  runtime_array_below _ p = record { result = tt; set = tt }

  struct_type_below : (os : List Operand) → AreBelow os → IsBelow bound (struct_type os)
  struct_type_below (Id r ∷ os) p = record { result = p.0; set = tt }
  struct_type_below _ p = record { result = tt; set = tt }

  pointer_type_below : (os : List Operand) → AreBelow os → IsBelow bound (pointer_type os)
  pointer_type_below (Id r ∷ Word storage ∷ Id pointee ∷ []) p = record { result = p.0; set = tt }
  pointer_type_below _ p = record { result = tt; set = tt }

  function_type_below : (os : List Operand) → AreBelow os → IsBelow bound (function_type os)
  function_type_below (Id r ∷ Id result ∷ os) p = record { result = p.0; set = tt }
  function_type_below _ p = record { result = tt; set = tt }

  constant_below : (os : List Operand) → AreBelow os → IsBelow bound (constant os)
  constant_below (Id t ∷ Id r ∷ Word value ∷ []) p = record { result = p.1.0; set = tt }
  constant_below _ p = record { result = tt; set = tt }

  spec_constant_below : (os : List Operand) → AreBelow os → IsBelow bound (spec_constant os)
  spec_constant_below (Id t ∷ Id r ∷ Word default ∷ []) p = record { result = p.1.0; set = tt }
  spec_constant_below _ p = record { result = tt; set = tt }

  spec_composite_below : (os : List Operand) → AreBelow os → IsBelow bound (spec_composite os)
  spec_composite_below (Id t ∷ Id r ∷ os) p = record { result = p.1.0; set = tt }
  spec_composite_below _ p = record { result = tt; set = tt }

  function_below : (os : List Operand) → AreBelow os → IsBelow bound (function os)
  function_below (Id t ∷ Id r ∷ Word control ∷ Id type ∷ []) p = record { result = p.1.0; set = tt }
  function_below _ p = record { result = tt; set = tt }

  function_end_below : (os : List Operand) → AreBelow os → IsBelow bound (function_end os)
  function_end_below [] p = record { result = tt; set = tt }
  function_end_below _ p = record { result = tt; set = tt }

  variable_below : (os : List Operand) → AreBelow os → IsBelow bound (variable os)
  variable_below (Id t ∷ Id r ∷ Word storage ∷ []) p = record { result = p.1.0; set = tt }
  variable_below _ p = record { result = tt; set = tt }

  load_below : (os : List Operand) → AreBelow os → IsBelow bound (load os)
  load_below (Id t ∷ Id r ∷ Id pointer ∷ []) p = record { result = p.1.0; set = tt }
  load_below _ p = record { result = tt; set = tt }

  store_below : (os : List Operand) → AreBelow os → IsBelow bound (store os)
  store_below (Id pointer ∷ Id value ∷ []) p = record { result = tt; set = tt }
  store_below _ p = record { result = tt; set = tt }

  access_chain_below : (os : List Operand) → AreBelow os → IsBelow bound (access_chain os)
  access_chain_below (Id t ∷ Id r ∷ Id base ∷ os) p = record { result = p.1.0; set = tt }
  access_chain_below _ p = record { result = tt; set = tt }

  decorate_below : (os : List Operand) → AreBelow os → IsBelow bound (decorate os)
  decorate_below (Id target ∷ Word kind ∷ os) p = record { result = tt; set = tt }
  decorate_below _ p = record { result = tt; set = tt }

  member_decorate_below : (os : List Operand) → AreBelow os → IsBelow bound (member_decorate os)
  member_decorate_below (Id type ∷ Word member ∷ Word kind ∷ os) p = record { result = tt; set = tt }
  member_decorate_below _ p = record { result = tt; set = tt }

  extract_below : (os : List Operand) → AreBelow os → IsBelow bound (extract os)
  extract_below (Id t ∷ Id r ∷ Id composite ∷ os) p = record { result = p.1.0; set = tt }
  extract_below _ p = record { result = tt; set = tt }

  add_below : (os : List Operand) → AreBelow os → IsBelow bound (add os)
  add_below (Id t ∷ Id r ∷ Id a ∷ Id b ∷ []) p = record { result = p.1.0; set = tt }
  add_below _ p = record { result = tt; set = tt }

  label_below : (os : List Operand) → AreBelow os → IsBelow bound (label os)
  label_below (Id r ∷ []) p = record { result = p.0; set = tt }
  label_below _ p = record { result = tt; set = tt }

  return_below : (os : List Operand) → AreBelow os → IsBelow bound (return os)
  return_below [] p = record { result = tt; set = tt }
  return_below _ p = record { result = tt; set = tt }

  capability_below : (os : List Operand) → AreBelow os → IsBelow bound (capability os)
  capability_below (Word c ∷ []) p = record { result = tt; set = tt }
  capability_below _ p = record { result = tt; set = tt }

  extension_below : (os : List Operand) → AreBelow os → IsBelow bound (extension os)
  extension_below (Str name ∷ []) p = record { result = tt; set = tt }
  extension_below _ p = record { result = tt; set = tt }

  memory_model_below : (os : List Operand) → AreBelow os → IsBelow bound (memory_model os)
  memory_model_below (Word addressing ∷ Word memory ∷ []) p = record { result = tt; set = tt }
  memory_model_below _ p = record { result = tt; set = tt }

  abbrev KeepsBelow : (ℕ × (List Operand → Said)) → Type 0
  KeepsBelow row = (os : List Operand) → AreBelow os → IsBelow bound (row.1 os)

  abbrev AllKeepBelow : List (ℕ × (List Operand → Said)) → Type 0
  AllKeepBelow [] = Unit {0}
  AllKeepBelow (row ∷ rows) = KeepsBelow row × AllKeepBelow rows

  one_or_other : (b : Bool) (s t : Said) → IsBelow bound s → IsBelow bound t → IsBelow bound (if b then s else t)
  one_or_other true s t p q = p
  one_or_other false s t p q = q

  read_below : (rows : List (ℕ × (List Operand → Said))) (code : ℕ) (os : List Operand) → AllKeepBelow rows → AreBelow os → IsBelow bound (read_by rows code os)
  read_below [] code os k p = record { result = tt; set = tt }
  read_below (row ∷ rows) code os k p = one_or_other (code == row.0) (row.1 os) (read_by rows code os) (k.0 os p) (read_below rows code os k.1 p)

  all_below : AllKeepBelow readings
  all_below = (string_below, (import_below, (extended_below, (entry_point_below, (execution_mode_below, (void_type_below, (int_type_below, (vector_type_below, (runtime_array_below, (struct_type_below, (pointer_type_below, (function_type_below, (constant_below, (spec_constant_below, (spec_composite_below, (function_below, (function_end_below, (variable_below, (load_below, (store_below, (access_chain_below, (decorate_below, (member_decorate_below, (extract_below, (add_below, (label_below, (return_below, (capability_below, (extension_below, (memory_model_below, tt))))))))))))))))))))))))))))))

  pub said_below : (i : Inst) → All (IsIdBelow bound) (ids_of i) → IsBelow bound (said i)
  said_below i p = read_below readings i.op i.operands all_below (recursion_from_All (IsIdBelow bound) (ids_of i) p)
