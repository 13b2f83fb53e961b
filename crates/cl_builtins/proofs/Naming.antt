-- The tables of names, step by step as they are looked through.
use Rattle.std.proofs.Common.{◌≡◌, ℕ, ◌-◌, List, length, take, drop, refl, Bool, true, false, Option, Some, None}
use Rattle.std.specs.Prelude.{bytes_eq, codes}
use Rattle.cl_builtins.specs.declared.kind.Gentype.{Gentype}
use Rattle.cl_builtins.specs.declared.name.Rule.{Rule}
use Rattle.cl_builtins.specs.declared.name.Rule.TheVariants as rule
use Rattle.cl_builtins.specs.Kinds.{is_gentype}
use Rattle.cl_builtins.specs.Names.{Entry, lookup, before, behind, beside, many, scalars, with_count, types, work_items, arithmetic, bitwise, relations, vectors, fences, atomics, plain, convert_to, read_as, conversions, rereadings, entries}
use Rattle.cl_types.specs.Layout.{is_count}
use Rattle.cl_builtins.proofs.Lookups.{first_found, then_found, before_found, before_other, behind_found, behind_other, beside_found, all_beside, lookup_all}

-- ---- types

pub vector_found : (digits name front : List ℕ) (n : ℕ) (t : Gentype) → bytes_eq (drop (length name - length digits) name) digits ≡ true → front ≡ take (length name - length digits) name → Some t ≡ lookup scalars front → Some (record t { count = n }) ≡ lookup (with_count digits n) name
unfolding with_count
vector_found digits name front n t h f e = behind_found digits (many n) scalars name front (Some t) h f e

pub vector_none : (digits name front : List ℕ) (n : ℕ) → bytes_eq (drop (length name - length digits) name) digits ≡ true → front ≡ take (length name - length digits) name → None ≡ lookup scalars front → None ≡ lookup (with_count digits n) name
unfolding with_count
vector_none digits name front n h f e = behind_found digits (many n) scalars name front None h f e

pub vector_other : (digits name : List ℕ) (n : ℕ) → bytes_eq (drop (length name - length digits) name) digits ≡ false → None ≡ lookup (with_count digits n) name
unfolding with_count
vector_other digits name n h = behind_other digits (many n) scalars name h

pub type_1 : (name : List ℕ) (t : Gentype) → Some t ≡ lookup scalars name → Some t ≡ lookup types name
unfolding types
type_1 name t e = first_found scalars _ name t e

pub type_2 : (name : List ℕ) (t : Gentype) → None ≡ lookup scalars name → Some t ≡ lookup (with_count (codes "2") 2) name → Some t ≡ lookup types name
unfolding types
type_2 name t m e = then_found scalars _ name (Some t) m (first_found (with_count (codes "2") 2) _ name t e)

pub type_3 : (name : List ℕ) (t : Gentype) → None ≡ lookup scalars name → None ≡ lookup (with_count (codes "2") 2) name → Some t ≡ lookup (with_count (codes "3") 3) name → Some t ≡ lookup types name
unfolding types
type_3 name t m n e = then_found scalars _ name (Some t) m (then_found (with_count (codes "2") 2) _ name (Some t) n (first_found (with_count (codes "3") 3) _ name t e))

pub type_4 : (name : List ℕ) (r : Option Gentype) → None ≡ lookup scalars name → None ≡ lookup (with_count (codes "2") 2) name → None ≡ lookup (with_count (codes "3") 3) name → r ≡ lookup (with_count (codes "4") 4) name → r ≡ lookup types name
unfolding types
type_4 name r m n o e = then_found scalars _ name r m (then_found (with_count (codes "2") 2) _ name r n (then_found (with_count (codes "3") 3) _ name r o e))

-- ---- functions whose names hold no type

pub plain_1 : (name : List ℕ) (e : Entry) → Some e ≡ lookup work_items name → Some e ≡ lookup plain name
unfolding plain
plain_1 name e h = first_found work_items _ name e h

pub plain_2 : (name : List ℕ) (e : Entry) → None ≡ lookup work_items name → Some e ≡ lookup arithmetic name → Some e ≡ lookup plain name
unfolding plain
plain_2 name e a h = then_found work_items _ name (Some e) a (first_found arithmetic _ name e h)

pub plain_3 : (name : List ℕ) (e : Entry) → None ≡ lookup work_items name → None ≡ lookup arithmetic name → Some e ≡ lookup bitwise name → Some e ≡ lookup plain name
unfolding plain
plain_3 name e a b h = then_found work_items _ name (Some e) a (then_found arithmetic _ name (Some e) b (first_found bitwise _ name e h))

pub plain_4 : (name : List ℕ) (e : Entry) → None ≡ lookup work_items name → None ≡ lookup arithmetic name → None ≡ lookup bitwise name → Some e ≡ lookup relations name → Some e ≡ lookup plain name
unfolding plain
plain_4 name e a b c h = then_found work_items _ name (Some e) a (then_found arithmetic _ name (Some e) b (then_found bitwise _ name (Some e) c (first_found relations _ name e h)))

pub plain_5 : (name : List ℕ) (e : Entry) → None ≡ lookup work_items name → None ≡ lookup arithmetic name → None ≡ lookup bitwise name → None ≡ lookup relations name → Some e ≡ lookup vectors name → Some e ≡ lookup plain name
unfolding plain
plain_5 name e a b c d h = then_found work_items _ name (Some e) a (then_found arithmetic _ name (Some e) b (then_found bitwise _ name (Some e) c (then_found relations _ name (Some e) d (first_found vectors _ name e h))))

pub plain_6 : (name : List ℕ) (e : Entry) → None ≡ lookup work_items name → None ≡ lookup arithmetic name → None ≡ lookup bitwise name → None ≡ lookup relations name → None ≡ lookup vectors name → Some e ≡ lookup fences name → Some e ≡ lookup plain name
unfolding plain
plain_6 name e a b c d f h = then_found work_items _ name (Some e) a (then_found arithmetic _ name (Some e) b (then_found bitwise _ name (Some e) c (then_found relations _ name (Some e) d (then_found vectors _ name (Some e) f (first_found fences _ name e h)))))

pub plain_7 : (name : List ℕ) (r : Option Entry) → None ≡ lookup work_items name → None ≡ lookup arithmetic name → None ≡ lookup bitwise name → None ≡ lookup relations name → None ≡ lookup vectors name → None ≡ lookup fences name → r ≡ lookup atomics name → r ≡ lookup plain name
unfolding plain
plain_7 name r a b c d f g h = then_found work_items _ name r a (then_found arithmetic _ name r b (then_found bitwise _ name r c (then_found relations _ name r d (then_found vectors _ name r f (then_found fences _ name r g h)))))

-- ---- conversions

pub conversion_1 : (name : List ℕ) (to : Gentype) → Some to ≡ lookup types name → Some (convert_to false to) ≡ lookup conversions name
unfolding conversions
conversion_1 name to h = first_found (beside (convert_to false) types) _ name (convert_to false to) (beside_found (convert_to false) types name (Some to) h)

unsaturated : (name : List ℕ) (r : Option Entry) → None ≡ lookup types name → r ≡ lookup (behind (codes "_sat") (convert_to true) types) name → r ≡ lookup conversions name
unfolding conversions
unsaturated name r n h = then_found (beside (convert_to false) types) _ name r (beside_found (convert_to false) types name None n) h

pub conversion_2 : (name front : List ℕ) (to : Gentype) → None ≡ lookup types name → bytes_eq (drop (length name - length (codes "_sat")) name) (codes "_sat") ≡ true → front ≡ take (length name - length (codes "_sat")) name → Some to ≡ lookup types front → Some (convert_to true to) ≡ lookup conversions name
conversion_2 name front to n h f e = unsaturated name _ n (behind_found (codes "_sat") (convert_to true) types name front (Some to) h f e)

pub conversion_3 : (name front : List ℕ) → None ≡ lookup types name → bytes_eq (drop (length name - length (codes "_sat")) name) (codes "_sat") ≡ true → front ≡ take (length name - length (codes "_sat")) name → None ≡ lookup types front → None ≡ lookup conversions name
conversion_3 name front n h f e = unsaturated name _ n (behind_found (codes "_sat") (convert_to true) types name front None h f e)

pub conversion_4 : (name : List ℕ) → None ≡ lookup types name → bytes_eq (drop (length name - length (codes "_sat")) name) (codes "_sat") ≡ false → None ≡ lookup conversions name
conversion_4 name n h = unsaturated name _ n (behind_other (codes "_sat") (convert_to true) types name h)

pub rereading_1 : (name : List ℕ) (to : Gentype) → Some to ≡ lookup types name → Some (read_as to) ≡ lookup rereadings name
unfolding rereadings
rereading_1 name to h = beside_found read_as types name (Some to) h

pub rereading_2 : (name : List ℕ) → None ≡ lookup types name → None ≡ lookup rereadings name
unfolding rereadings
rereading_2 name h = beside_found read_as types name None h

-- ---- all

pub entry_1 : (name : List ℕ) (e : Entry) → Some e ≡ lookup plain name → Some e ≡ lookup entries name
unfolding entries
entry_1 name e h = first_found plain _ name e h

pub entry_2 : (name : List ℕ) (e : Entry) → None ≡ lookup plain name → Some e ≡ lookup (before (codes "convert_") conversions) name → Some e ≡ lookup entries name
unfolding entries
entry_2 name e a h = then_found plain _ name (Some e) a (first_found (before (codes "convert_") conversions) _ name e h)

pub entry_3 : (name : List ℕ) (r : Option Entry) → None ≡ lookup plain name → None ≡ lookup (before (codes "convert_") conversions) name → r ≡ lookup (before (codes "as_") rereadings) name → r ≡ lookup entries name
unfolding entries
entry_3 name r a b h = then_found plain _ name r a (then_found (before (codes "convert_") conversions) _ name r b h)

-- ---- the rules that stand in the table

-- a rule names types that a table can have
abbrev pub is_sound : Rule → Bool
is_sound (rule.Convert to) = is_gentype to
is_sound (rule.Reread to) = is_gentype to
is_sound (rule.Load n) = is_count n
is_sound (rule.Store n) = is_count n
is_sound _ = true

abbrev pub is_sound_entry : Entry → Bool
is_sound_entry e = is_sound e.1

entries_sound : all_beside is_sound_entry entries ≡ true
unfolding entries plain work_items arithmetic bitwise relations vectors fences atomics conversions rereadings types with_count scalars
entries_sound = refl

pub rule_sound : (name : List ℕ) (e : Entry) → lookup entries name ≡ Some e → is_sound e.1 ≡ true
rule_sound name e h = lookup_all is_sound_entry entries name e entries_sound h

pub ruleset type_steps = (type_1, type_2, type_3, type_4)

pub ruleset vector_steps = (vector_found, vector_none, vector_other)

pub ruleset plain_steps = (plain_1, plain_2, plain_3, plain_4, plain_5, plain_6, plain_7)

pub ruleset conversion_steps = (conversion_1, conversion_2, conversion_3, conversion_4)

pub ruleset rereading_steps = (rereading_1, rereading_2)

pub ruleset before_steps = (before_found, before_other)

pub ruleset entry_steps = (entry_1, entry_2, entry_3)
