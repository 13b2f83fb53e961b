-- The module of a kernel is good for its text.
use Rattle.std.proofs.Common.{◌≡◌, ℕ, ◌≤◌, List, length, refl, sym, ap, ◌∙◌, subst}
use Rattle.std.specs.Prelude.{All}
use Rattle.spv_module.specs.declared.module.Module.{Module}
use Rattle.spv_module.specs.Words.{HasCount, little_endian, module_words}
use Rattle.clv_engine.specs.declared.form.Kernel.{Kernel}
use Rattle.clv_engine.specs.FirstForm.{IsIn}
use Rattle.clv_engine.specs.Emitted.{module_of}
use Rattle.clv_engine.specs.Command.{IsGood, IsCompiled}
use Rattle.clv_engine.proofs.FactsSpelled.{is_spelled, small}
use Rattle.clv_engine.proofs.FactsValid.{is_valid}
use Rattle.clv_engine.proofs.FactsReflection.{reflection_agrees}
use Rattle.clv_engine.proofs.FactsInterface.{interface_agrees}
use Rattle.clv_engine.proofs.BindingFacts.{binding_agrees}
use Rattle.clv_engine.proofs.Simulation.{item_simulation, world_simulation}

pub few_terms : (text : List ℕ) (k : Kernel) → IsIn text k → length k.terms ≤ 100
few_terms text k i = i.kernel.few

pub counts_fit : (text : List ℕ) (k : Kernel) (m : Module) → IsIn text k → m ≡ module_of k → All HasCount m.body
counts_fit text k m i e = subst (λ n. All HasCount n.body) (sym e) (is_spelled k i.kernel).body.counts

good : (text : List ℕ) (k : Kernel) → IsIn text k → IsGood text (module_of k)
good text k i = record {
  kernel = k;
  accepted = i;
  valid = is_valid k i.kernel;
  reflection = reflection_agrees k i.kernel;
  interface = interface_agrees k i.kernel;
  binding = binding_agrees k;
  items = item_simulation k i.kernel;
  worlds = world_simulation k i.kernel;
  bound = (small k i.kernel).1;
  size = (small k i.kernel).0;
}

pub is_compiled : (text bytes : List ℕ) (k : Kernel) (m : Module) → IsIn text k → m ≡ module_of k → bytes ≡ little_endian (module_words m) → IsCompiled text bytes
is_compiled text bytes k m i e f = record {
  made = module_of k;
  spells = (is_spelled k i.kernel, f ∙ ap (λ n. little_endian (module_words n)) e);
  good = good text k i;
  generator = refl;
}

pub ruleset compile_steps = (few_terms, counts_fit, is_compiled)
