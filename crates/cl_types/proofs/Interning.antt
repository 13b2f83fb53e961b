-- A type that is taken into a table.
use Rattle.std.proofs.Common.{◌≡◌, ℕ, ◌+◌, ◌<◌, ◌^◌, List, [], ◌∷◌, ◌++◌, length, refl, sym, ap, ◌∙◌, subst, arith, Some, None, Option, slice_get, position, Result, Ok, Err, OnOk}
use Rattle.std.specs.Prelude.{OnErr, IfOk}
use Rattle.std.specs.Map.{keys_of, lookup}
use Rattle.std.proofs.lemmas.Option.{slice_get_within}
use Rattle.indexmap.specs.IndexMap.{IndexMap, insert_entry, get}
use Rattle.indexmap.proofs.CallerLemmas.{insert_entry-new}
use Rattle.cl_types.specs.declared.types.ClType.{ClType}
use Rattle.cl_types.specs.declared.types.TypeId.{TypeId}
use Rattle.cl_types.specs.declared.stop.TypeStop.{TypeStop}
use Rattle.cl_types.specs.declared.table.Row.{Row}
use Rattle.cl_types.specs.Same.{type_eq}
use Rattle.cl_types.specs.Rows.{IsRow, AreRows}
use Rattle.cl_types.specs.Table.{tree_from, trees, tree_of, IsBuilt, IsTable, IsWithin, Interned, known, added}
use Rattle.cl_types.proofs.Rows.{rows_more, now_more, new_key, tree_found, known as is_known}

-- the entries with a new one
pub entries_new : {S : Type 0} (m : IndexMap ClType Row S) (cs : List ClType) (c : ClType) (r : Row) → keys_of m.entries ≡ cs → ((i : ℕ) → slice_get cs i ≡ Some c → ⊥) → insert_entry type_eq m.entries c r ≡ m.entries ++ (c, r) ∷ []
entries_new m cs c r v a = insert_entry-new type_eq m c r (new_key m.entries cs c v a)

pub rows_inserted : {S E : Type 0} (m n : IndexMap ClType Row S) (cs : List ClType) (c : ClType) (r : Row) (res : Result (Option Row) E) → OnOk res (n.entries ≡ insert_entry type_eq m.entries c r) → OnErr res (n.entries ≡ m.entries) → keys_of m.entries ≡ cs → AreRows m.entries → length cs < 2 ^ 32 → IsBuilt cs c → IsRow r (tree_from (trees cs) c) → ((i : ℕ) → slice_get cs i ≡ Some c → ⊥) → AreRows n.entries
rows_inserted m n cs c r (Ok o) e f v h l b w a = rows_more m.entries n.entries cs c r (e ∙ entries_new m cs c r v a) v h l b w a
rows_inserted m n cs c r (Err o) e f v h l b w a = subst AreRows (sym f) h

pub known_within : (cs : List ClType) (c : ClType) (i : ℕ) → IsTable cs → slice_get cs i ≡ Some c → IsWithin (tree_from (trees cs) c)
known_within cs c i t e = subst IsWithin (tree_found cs i c t.built e) (t.within i (slice_get_within cs i c e))

pub interned_new : (old new : List ClType) (c : ClType) (r : Result TypeId TypeStop) → IfOk r (λ t. (t.0 ≡ length old) × (new ≡ old ++ c ∷ [])) → ((i : ℕ) → slice_get old i ≡ Some c → ⊥) → IfOk r (λ t. Interned old new c t.0)
interned_new old new c (Ok t) h a = added h.1 h.0 a
interned_new old new c (Err s) h a = h
