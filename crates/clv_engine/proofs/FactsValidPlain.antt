-- The rules that a kernel's module keeps by what its instructions are alone.
use Rattle.std.proofs.Common.{◌≡◌, Bool, true, false, List, [], ◌++◌, refl, ◌∙◌}
use Rattle.clv_engine.specs.declared.form.Kernel.{Kernel}
use Rattle.clv_engine.specs.declared.id.TheConstants as id
use Rattle.clv_engine.specs.Emitted.{constants_from}
use Rattle.clv_engine.proofs.FactsScans.{code_of}
use Rattle.clv_engine.proofs.FactsLines.{the_whole}
use Rattle.clv_engine.proofs.FactsWalk.{Step, constant, main, both, by_steps, behind_head, walk}
use Rattle.spv_types_rules.specs.Lines.{Line, Whole, Spot, lines_from}
use Rattle.spv_types_rules.specs.Rules.{Rule, rule, rule_with, built_rule, anywhere, all_keep, is_kept_in}
use Rattle.spv_types_rules.specs.Sections.{is_built, keeps_model, has_model, keeps_capability, has_capabilities, keeps_extension, has_extensions, keeps_import, has_import}
use Rattle.spv_types_rules.specs.Types.{is_new_type, is_good_type, keeps_layout, keeps_places, is_small_type}
use Rattle.spv_types_rules.specs.Variables.{keeps_storage, keeps_bound, keeps_apart, keeps_push, keeps_input, keeps_marks, keeps_bools, keeps_pointers}
use Rattle.spv_types_rules.specs.Entries.{keeps_entries, has_entry, keeps_entry_functions, keeps_interfaces, has_group_size, keeps_spec_ids}
use Rattle.spv_types_rules.specs.Functions.{keeps_parameters, keeps_targets, keeps_arguments}
use Rattle.spv_types_rules.specs.Values.{keeps_atomics, keeps_selectors, keeps_reflection}

-- what is behind the head
abbrev pub behind : Kernel → List Line
behind k = lines_from false (constants_from id.TERMS k.terms ++ code_of k.terms)

-- the lines of the whole keep what those of the head and each line behind it keep
pub from_walk : (keeps : Spot → Bool) (k : Kernel) → all_keep keeps (the_whole k) [] (the_whole k).lines ≡ all_keep keeps (the_whole k) (behind_head k) (behind k) → ((b : List Line) (l : Line) (a : List Line) → Step (the_whole k) b l a → keeps (record { whole = the_whole k; before = b; here = l; after = a }) ≡ true) → all_keep keeps (the_whole k) [] (the_whole k).lines ≡ true
from_walk keeps k e each = e ∙ by_steps keeps (the_whole k) each (behind_head k) (behind k) (walk k)

pub with_has : (r : Rule) (w : Whole) → all_keep r.keeps w [] w.lines ≡ true → r.has w ≡ true → is_kept_in r w ≡ true
with_has r w e h = both (all_keep r.keeps w [] w.lines) (r.has w) e h

keeps_0 : (k : Kernel) (b : List Line) (l : Line) (a : List Line) → Step (the_whole k) b l a → is_built (record { whole = the_whole k; before = b; here = l; after = a }) ≡ true
keeps_0 k _ _ _ (constant b a r n f m u) = refl
keeps_0 k _ _ _ _ = refl

pub kept_0 : (k : Kernel) → is_kept_in (built_rule) (the_whole k) ≡ true
kept_0 k = with_has (built_rule) (the_whole k) (from_walk is_built k refl (keeps_0 k)) refl

keeps_2 : (k : Kernel) (b : List Line) (l : Line) (a : List Line) → Step (the_whole k) b l a → keeps_model (record { whole = the_whole k; before = b; here = l; after = a }) ≡ true
keeps_2 k _ _ _ (constant b a r n f m u) = refl
keeps_2 k _ _ _ _ = refl

pub kept_2 : (k : Kernel) → is_kept_in (rule_with 2 keeps_model has_model) (the_whole k) ≡ true
kept_2 k = with_has (rule_with 2 keeps_model has_model) (the_whole k) (from_walk keeps_model k refl (keeps_2 k)) refl

keeps_3 : (k : Kernel) (b : List Line) (l : Line) (a : List Line) → Step (the_whole k) b l a → keeps_capability (record { whole = the_whole k; before = b; here = l; after = a }) ≡ true
keeps_3 k _ _ _ (constant b a r n f m u) = refl
keeps_3 k _ _ _ _ = refl

pub kept_3 : (k : Kernel) → is_kept_in (rule_with 3 keeps_capability has_capabilities) (the_whole k) ≡ true
kept_3 k = with_has (rule_with 3 keeps_capability has_capabilities) (the_whole k) (from_walk keeps_capability k refl (keeps_3 k)) refl

keeps_4 : (k : Kernel) (b : List Line) (l : Line) (a : List Line) → Step (the_whole k) b l a → keeps_extension (record { whole = the_whole k; before = b; here = l; after = a }) ≡ true
keeps_4 k _ _ _ (constant b a r n f m u) = refl
keeps_4 k _ _ _ _ = refl

pub kept_4 : (k : Kernel) → is_kept_in (rule_with 4 keeps_extension has_extensions) (the_whole k) ≡ true
kept_4 k = with_has (rule_with 4 keeps_extension has_extensions) (the_whole k) (from_walk keeps_extension k refl (keeps_4 k)) refl

keeps_5 : (k : Kernel) (b : List Line) (l : Line) (a : List Line) → Step (the_whole k) b l a → keeps_import (record { whole = the_whole k; before = b; here = l; after = a }) ≡ true
keeps_5 k _ _ _ (constant b a r n f m u) = refl
keeps_5 k _ _ _ _ = refl

pub kept_5 : (k : Kernel) → is_kept_in (rule_with 5 keeps_import has_import) (the_whole k) ≡ true
kept_5 k = with_has (rule_with 5 keeps_import has_import) (the_whole k) (from_walk keeps_import k refl (keeps_5 k)) refl

keeps_10 : (k : Kernel) (b : List Line) (l : Line) (a : List Line) → Step (the_whole k) b l a → is_new_type (record { whole = the_whole k; before = b; here = l; after = a }) ≡ true
keeps_10 k _ _ _ (constant b a r n f m u) = refl
keeps_10 k _ _ _ _ = refl

pub kept_10 : (k : Kernel) → is_kept_in (rule 10 is_new_type) (the_whole k) ≡ true
kept_10 k = with_has (rule 10 is_new_type) (the_whole k) (from_walk is_new_type k refl (keeps_10 k)) refl

keeps_11 : (k : Kernel) (b : List Line) (l : Line) (a : List Line) → Step (the_whole k) b l a → is_good_type (record { whole = the_whole k; before = b; here = l; after = a }) ≡ true
keeps_11 k _ _ _ (constant b a r n f m u) = refl
keeps_11 k _ _ _ _ = refl

pub kept_11 : (k : Kernel) → is_kept_in (rule 11 is_good_type) (the_whole k) ≡ true
kept_11 k = with_has (rule 11 is_good_type) (the_whole k) (from_walk is_good_type k refl (keeps_11 k)) refl

keeps_13 : (k : Kernel) (b : List Line) (l : Line) (a : List Line) → Step (the_whole k) b l a → keeps_layout (record { whole = the_whole k; before = b; here = l; after = a }) ≡ true
keeps_13 k _ _ _ (constant b a r n f m u) = refl
keeps_13 k _ _ _ _ = refl

pub kept_13 : (k : Kernel) → is_kept_in (rule 13 keeps_layout) (the_whole k) ≡ true
kept_13 k = with_has (rule 13 keeps_layout) (the_whole k) (from_walk keeps_layout k refl (keeps_13 k)) refl

keeps_14 : (k : Kernel) (b : List Line) (l : Line) (a : List Line) → Step (the_whole k) b l a → keeps_places (record { whole = the_whole k; before = b; here = l; after = a }) ≡ true
keeps_14 k _ _ _ (constant b a r n f m u) = refl
keeps_14 k _ _ _ _ = refl

pub kept_14 : (k : Kernel) → is_kept_in (rule 14 keeps_places) (the_whole k) ≡ true
kept_14 k = with_has (rule 14 keeps_places) (the_whole k) (from_walk keeps_places k refl (keeps_14 k)) refl

keeps_15 : (k : Kernel) (b : List Line) (l : Line) (a : List Line) → Step (the_whole k) b l a → is_small_type (record { whole = the_whole k; before = b; here = l; after = a }) ≡ true
keeps_15 k _ _ _ (constant b a r n f m u) = refl
keeps_15 k _ _ _ _ = refl

pub kept_15 : (k : Kernel) → is_kept_in (rule 15 is_small_type) (the_whole k) ≡ true
kept_15 k = with_has (rule 15 is_small_type) (the_whole k) (from_walk is_small_type k refl (keeps_15 k)) refl

keeps_16 : (k : Kernel) (b : List Line) (l : Line) (a : List Line) → Step (the_whole k) b l a → keeps_storage (record { whole = the_whole k; before = b; here = l; after = a }) ≡ true
keeps_16 k _ _ _ (constant b a r n f m u) = refl
keeps_16 k _ _ _ _ = refl

pub kept_16 : (k : Kernel) → is_kept_in (rule 16 keeps_storage) (the_whole k) ≡ true
kept_16 k = with_has (rule 16 keeps_storage) (the_whole k) (from_walk keeps_storage k refl (keeps_16 k)) refl

keeps_17 : (k : Kernel) (b : List Line) (l : Line) (a : List Line) → Step (the_whole k) b l a → keeps_bound (record { whole = the_whole k; before = b; here = l; after = a }) ≡ true
keeps_17 k _ _ _ (constant b a r n f m u) = refl
keeps_17 k _ _ _ _ = refl

pub kept_17 : (k : Kernel) → is_kept_in (rule 17 keeps_bound) (the_whole k) ≡ true
kept_17 k = with_has (rule 17 keeps_bound) (the_whole k) (from_walk keeps_bound k refl (keeps_17 k)) refl

keeps_18 : (k : Kernel) (b : List Line) (l : Line) (a : List Line) → Step (the_whole k) b l a → keeps_apart (record { whole = the_whole k; before = b; here = l; after = a }) ≡ true
keeps_18 k _ _ _ (constant b a r n f m u) = refl
keeps_18 k _ _ _ _ = refl

pub kept_18 : (k : Kernel) → is_kept_in (rule 18 keeps_apart) (the_whole k) ≡ true
kept_18 k = with_has (rule 18 keeps_apart) (the_whole k) (from_walk keeps_apart k refl (keeps_18 k)) refl

keeps_19 : (k : Kernel) (b : List Line) (l : Line) (a : List Line) → Step (the_whole k) b l a → keeps_push (record { whole = the_whole k; before = b; here = l; after = a }) ≡ true
keeps_19 k _ _ _ (constant b a r n f m u) = refl
keeps_19 k _ _ _ _ = refl

pub kept_19 : (k : Kernel) → is_kept_in (rule 19 keeps_push) (the_whole k) ≡ true
kept_19 k = with_has (rule 19 keeps_push) (the_whole k) (from_walk keeps_push k refl (keeps_19 k)) refl

keeps_20 : (k : Kernel) (b : List Line) (l : Line) (a : List Line) → Step (the_whole k) b l a → keeps_input (record { whole = the_whole k; before = b; here = l; after = a }) ≡ true
keeps_20 k _ _ _ (constant b a r n f m u) = refl
keeps_20 k _ _ _ _ = refl

pub kept_20 : (k : Kernel) → is_kept_in (rule 20 keeps_input) (the_whole k) ≡ true
kept_20 k = with_has (rule 20 keeps_input) (the_whole k) (from_walk keeps_input k refl (keeps_20 k)) refl

keeps_21 : (k : Kernel) (b : List Line) (l : Line) (a : List Line) → Step (the_whole k) b l a → keeps_marks (record { whole = the_whole k; before = b; here = l; after = a }) ≡ true
keeps_21 k _ _ _ (constant b a r n f m u) = refl
keeps_21 k _ _ _ _ = refl

pub kept_21 : (k : Kernel) → is_kept_in (rule 21 keeps_marks) (the_whole k) ≡ true
kept_21 k = with_has (rule 21 keeps_marks) (the_whole k) (from_walk keeps_marks k refl (keeps_21 k)) refl

keeps_23 : (k : Kernel) (b : List Line) (l : Line) (a : List Line) → Step (the_whole k) b l a → keeps_bools (record { whole = the_whole k; before = b; here = l; after = a }) ≡ true
keeps_23 k _ _ _ (constant b a r n f m u) = refl
keeps_23 k _ _ _ _ = refl

pub kept_23 : (k : Kernel) → is_kept_in (rule 23 keeps_bools) (the_whole k) ≡ true
kept_23 k = with_has (rule 23 keeps_bools) (the_whole k) (from_walk keeps_bools k refl (keeps_23 k)) refl

keeps_24 : (k : Kernel) (b : List Line) (l : Line) (a : List Line) → Step (the_whole k) b l a → keeps_pointers (record { whole = the_whole k; before = b; here = l; after = a }) ≡ true
keeps_24 k _ _ _ (constant b a r n f m u) = refl
keeps_24 k _ _ _ _ = refl

pub kept_24 : (k : Kernel) → is_kept_in (rule 24 keeps_pointers) (the_whole k) ≡ true
kept_24 k = with_has (rule 24 keeps_pointers) (the_whole k) (from_walk keeps_pointers k refl (keeps_24 k)) refl

keeps_25 : (k : Kernel) (b : List Line) (l : Line) (a : List Line) → Step (the_whole k) b l a → keeps_entries (record { whole = the_whole k; before = b; here = l; after = a }) ≡ true
keeps_25 k _ _ _ (constant b a r n f m u) = refl
keeps_25 k _ _ _ _ = refl

pub kept_25 : (k : Kernel) → is_kept_in (rule_with 25 keeps_entries has_entry) (the_whole k) ≡ true
kept_25 k = with_has (rule_with 25 keeps_entries has_entry) (the_whole k) (from_walk keeps_entries k refl (keeps_25 k)) refl

keeps_26 : (k : Kernel) (b : List Line) (l : Line) (a : List Line) → Step (the_whole k) b l a → keeps_entry_functions (record { whole = the_whole k; before = b; here = l; after = a }) ≡ true
keeps_26 k _ _ _ (main b a f m e p g h) = h
keeps_26 k _ _ _ (constant b a r n f m u) = refl
keeps_26 k _ _ _ _ = refl

pub kept_26 : (k : Kernel) → is_kept_in (rule 26 keeps_entry_functions) (the_whole k) ≡ true
kept_26 k = with_has (rule 26 keeps_entry_functions) (the_whole k) (from_walk keeps_entry_functions k refl (keeps_26 k)) refl

keeps_27 : (k : Kernel) (b : List Line) (l : Line) (a : List Line) → Step (the_whole k) b l a → keeps_interfaces (record { whole = the_whole k; before = b; here = l; after = a }) ≡ true
keeps_27 k _ _ _ (constant b a r n f m u) = refl
keeps_27 k _ _ _ _ = refl

pub kept_27 : (k : Kernel) → is_kept_in (rule 27 keeps_interfaces) (the_whole k) ≡ true
kept_27 k = with_has (rule 27 keeps_interfaces) (the_whole k) (from_walk keeps_interfaces k refl (keeps_27 k)) refl

keeps_28 : (k : Kernel) (b : List Line) (l : Line) (a : List Line) → Step (the_whole k) b l a → anywhere (record { whole = the_whole k; before = b; here = l; after = a }) ≡ true
keeps_28 k _ _ _ (constant b a r n f m u) = refl
keeps_28 k _ _ _ _ = refl

pub kept_28 : (k : Kernel) → is_kept_in (rule_with 28 anywhere has_group_size) (the_whole k) ≡ true
kept_28 k = with_has (rule_with 28 anywhere has_group_size) (the_whole k) (from_walk anywhere k refl (keeps_28 k)) refl

keeps_29 : (k : Kernel) (b : List Line) (l : Line) (a : List Line) → Step (the_whole k) b l a → keeps_spec_ids (record { whole = the_whole k; before = b; here = l; after = a }) ≡ true
keeps_29 k _ _ _ (constant b a r n f m u) = refl
keeps_29 k _ _ _ _ = refl

pub kept_29 : (k : Kernel) → is_kept_in (rule 29 keeps_spec_ids) (the_whole k) ≡ true
kept_29 k = with_has (rule 29 keeps_spec_ids) (the_whole k) (from_walk keeps_spec_ids k refl (keeps_29 k)) refl

keeps_32 : (k : Kernel) (b : List Line) (l : Line) (a : List Line) → Step (the_whole k) b l a → keeps_parameters (record { whole = the_whole k; before = b; here = l; after = a }) ≡ true
keeps_32 k _ _ _ (constant b a r n f m u) = refl
keeps_32 k _ _ _ _ = refl

pub kept_32 : (k : Kernel) → is_kept_in (rule 32 keeps_parameters) (the_whole k) ≡ true
kept_32 k = with_has (rule 32 keeps_parameters) (the_whole k) (from_walk keeps_parameters k refl (keeps_32 k)) refl

keeps_34 : (k : Kernel) (b : List Line) (l : Line) (a : List Line) → Step (the_whole k) b l a → keeps_targets (record { whole = the_whole k; before = b; here = l; after = a }) ≡ true
keeps_34 k _ _ _ (constant b a r n f m u) = refl
keeps_34 k _ _ _ _ = refl

pub kept_34 : (k : Kernel) → is_kept_in (rule 34 keeps_targets) (the_whole k) ≡ true
kept_34 k = with_has (rule 34 keeps_targets) (the_whole k) (from_walk keeps_targets k refl (keeps_34 k)) refl

keeps_39 : (k : Kernel) (b : List Line) (l : Line) (a : List Line) → Step (the_whole k) b l a → keeps_arguments (record { whole = the_whole k; before = b; here = l; after = a }) ≡ true
keeps_39 k _ _ _ (constant b a r n f m u) = refl
keeps_39 k _ _ _ _ = refl

pub kept_39 : (k : Kernel) → is_kept_in (rule 39 keeps_arguments) (the_whole k) ≡ true
kept_39 k = with_has (rule 39 keeps_arguments) (the_whole k) (from_walk keeps_arguments k refl (keeps_39 k)) refl

keeps_40 : (k : Kernel) (b : List Line) (l : Line) (a : List Line) → Step (the_whole k) b l a → keeps_atomics (record { whole = the_whole k; before = b; here = l; after = a }) ≡ true
keeps_40 k _ _ _ (constant b a r n f m u) = refl
keeps_40 k _ _ _ _ = refl

pub kept_40 : (k : Kernel) → is_kept_in (rule 40 keeps_atomics) (the_whole k) ≡ true
kept_40 k = with_has (rule 40 keeps_atomics) (the_whole k) (from_walk keeps_atomics k refl (keeps_40 k)) refl

keeps_42 : (k : Kernel) (b : List Line) (l : Line) (a : List Line) → Step (the_whole k) b l a → keeps_selectors (record { whole = the_whole k; before = b; here = l; after = a }) ≡ true
keeps_42 k _ _ _ (constant b a r n f m u) = refl
keeps_42 k _ _ _ _ = refl

pub kept_42 : (k : Kernel) → is_kept_in (rule 42 keeps_selectors) (the_whole k) ≡ true
kept_42 k = with_has (rule 42 keeps_selectors) (the_whole k) (from_walk keeps_selectors k refl (keeps_42 k)) refl

keeps_44 : (k : Kernel) (b : List Line) (l : Line) (a : List Line) → Step (the_whole k) b l a → keeps_reflection (record { whole = the_whole k; before = b; here = l; after = a }) ≡ true
keeps_44 k _ _ _ (constant b a r n f m u) = refl
keeps_44 k _ _ _ _ = refl

pub kept_44 : (k : Kernel) → is_kept_in (rule 44 keeps_reflection) (the_whole k) ≡ true
kept_44 k = with_has (rule 44 keeps_reflection) (the_whole k) (from_walk keeps_reflection k refl (keeps_44 k)) refl
