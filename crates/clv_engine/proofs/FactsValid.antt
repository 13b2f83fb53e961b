-- A kernel's module is valid.
use Rattle.std.proofs.Common.{◌≡◌, true, List, [], sym, subst, ap}
use Rattle.std.specs.Prelude.{All}
use Rattle.std.proofs.lemmas.List.Elements.{All-nil, All-cons, All-from_recursion}
use Rattle.clv_engine.specs.declared.form.Kernel.{Kernel}
use Rattle.clv_engine.specs.Emitted.{body_of}
use Rattle.clv_engine.specs.FirstForm.{IsKernel}
use Rattle.clv_engine.proofs.FactsLines.{the_whole, whole_is, the_function, the_block, one_block, block_leaves}
use Rattle.clv_engine.proofs.FactsValidPlain.{kept_0, kept_2, kept_3, kept_4, kept_5, kept_10, kept_11, kept_13, kept_14, kept_15, kept_16, kept_17, kept_18, kept_19, kept_20, kept_21, kept_23, kept_24, kept_25, kept_26, kept_27, kept_28, kept_29, kept_32, kept_34, kept_39, kept_40, kept_42, kept_44}
use Rattle.clv_engine.proofs.FactsValidIds.{kept_1, kept_6, kept_7, kept_8, kept_9, kept_12, kept_22, kept_30, kept_31, kept_33, kept_36, kept_37, kept_38, kept_41, kept_43}
use Rattle.spv_types_rules.specs.Lines.{Whole}
use Rattle.spv_types_rules.specs.Functions.{Block}
use Rattle.spv_types_rules.specs.Structure.{outermost, To, closes, IsSequence, closed, first_label}
use Rattle.spv_types_rules.specs.Rules.{Rule, rules, built_rule, is_kept_in, IsFunctionStructured, IsValid}

abbrev IsKeptIn : Whole → Rule → Type 0
IsKeptIn w r = is_kept_in r w ≡ true

all_kept : (k : Kernel) → All (IsKeptIn (the_whole k)) rules
all_kept k = All-from_recursion (IsKeptIn (the_whole k)) rules
    (kept_1 k, (kept_2 k, (kept_3 k, (kept_4 k, (kept_5 k, (kept_6 k, (kept_7 k, (kept_8 k, (kept_9 k, (kept_10 k, (kept_11 k, (kept_12 k, (kept_13 k, (kept_14 k, (kept_15 k, (kept_16 k, (kept_17 k, (kept_18 k, (kept_19 k, (kept_20 k, (kept_21 k, (kept_22 k, (kept_23 k, (kept_24 k, (kept_25 k, (kept_26 k, (kept_27 k, (kept_28 k, (kept_29 k, (kept_30 k, (kept_31 k, (kept_32 k, (kept_33 k, (kept_34 k, (kept_36 k, (kept_37 k, (kept_38 k, (kept_39 k, (kept_40 k, (kept_41 k, (kept_42 k, (kept_43 k, (kept_44 k, tt)))))))))))))))))))))))))))))))))))))))))))

function_structured : (k : Kernel) → IsFunctionStructured (the_function k.terms)
function_structured k =
    subst (λ (bs : List Block). IsSequence outermost (To []) (first_label bs) bs) (sym (one_block k.terms))
    (closed outermost (To []) (the_block k.terms) (ap (closes outermost (To [])) (block_leaves k.terms)))

all_structured : (k : Kernel) → All IsFunctionStructured (the_whole k).functions
all_structured k = All-cons IsFunctionStructured (the_function k.terms) [] (function_structured k) (All-nil IsFunctionStructured)

pub is_valid : (k : Kernel) → IsKernel k → IsValid (body_of k)
is_valid k h = record {
  built = subst (λ (w : Whole). IsKeptIn w built_rule) (sym (whole_is k)) (kept_0 k);
  kept = subst (λ (w : Whole). All (IsKeptIn w) rules) (sym (whole_is k)) (all_kept k);
  structured = subst (λ (w : Whole). All IsFunctionStructured w.functions) (sym (whole_is k)) (all_structured k);
}
