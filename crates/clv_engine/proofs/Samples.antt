-- One kernel and its module, run on one launch, to see that the definitions mean what they say.
use Rattle.std.proofs.Common.{◌≡◌, ℕ, zero, suc, List, [], ◌∷◌, Some, refl}
use Rattle.clv_steps.specs.Machines.{Ends, Fails, after, told}
use Rattle.clv_engine.specs.declared.form.Kernel.{Kernel}
use Rattle.clv_engine.specs.declared.form.Term.TheVariants.{GlobalId, Literal}
use Rattle.clv_engine.specs.declared.id.TheConstants as id
use Rattle.spv_meaning.specs.Events.{Asked, Write}
use Rattle.launch_text.specs.Rules.{LoadedLaunch}
use Rattle.launch_text.specs.declared.launch.ArgKind.TheVariants.{Buffer}
use Rattle.clv_engine.specs.SourceItem.{source_item, first_state}
use Rattle.clv_engine.specs.Emitted.{body_of}
use Rattle.clv_engine.specs.KernelRows.{reflection_of}
use Rattle.spv_reflect.specs.Reflection.{rows_of}
use Rattle.spv_meaning.specs.Start.{Start}
use Rattle.spv_meaning.specs.Invocation.{invocation, first_run}
use Rattle.clv_engine.specs.Command.{words_text}
use Rattle.launch_text.specs.WorkItems.{group_of}
use Rattle.spv_meaning.specs.Worlds.{after_event}
use Rattle.spv_meaning.specs.Invocation.{given_of}
use Rattle.clv_engine.specs.Promises.{surroundings_of}

-- get_global_id(0)+7
abbrev sample : Kernel
sample = record { name = 107; argument = 97; terms = GlobalId ∷ Literal 7 ∷ [] }

abbrev launch : LoadedLaunch
launch = record {
  kernel = 107 ∷ [];
  dims = 1;
  global = record { x = 4; y = 1; z = 1 };
  local = record { x = 2; y = 1; z = 1 };
  buffers = (0 ∷ 0 ∷ 0 ∷ 0 ∷ 0 ∷ 0 ∷ 0 ∷ 0 ∷ 0 ∷ 0 ∷ 0 ∷ 0 ∷ []) ∷ [];
  arguments = record { ordinal = 0; kind = Buffer 0 } ∷ [];
}

abbrev start : Start
start = record {
  function = id.MAIN;
  global = record { x = 4; y = 1; z = 1 };
  local = record { x = 2; y = 1; z = 1 };
  buffers = launch.buffers;
  bound = record { set = 0; binding = 0; buffer = 0 } ∷ [];
  specialised = record { id = 0; value = 2 } ∷ record { id = 1; value = 1 } ∷ record { id = 2; value = 1 } ∷ [];
}

abbrev zeros : ℕ → List ℕ
zeros zero = []
zeros (suc n) = 0 ∷ zeros n

rows : rows_of (body_of sample) ≡ Some (reflection_of sample id.MAIN)
rows = refl

-- item 2 writes 9 at byte 8, in 18 steps
asked : List (Asked × ℕ)
asked = (record { function = 0; event = Write (record { buffer = 0; offset = 8; bits = 32 }) 9 }, 0) ∷ []

source_asks : told (source_item (surroundings_of launch 2)) (zeros 18) (first_state sample) ≡ (record { function = 0; event = Write (record { buffer = 0; offset = 8; bits = 32 }) 9 }, 0) ∷ []
source_asks = refl

source_ends : (source_item (surroundings_of launch 2)).status (after (source_item (surroundings_of launch 2)) (zeros 18) (first_state sample)) ≡ Ends
source_ends = refl

-- its invocation does so in 13
target_asks : told (invocation (given_of (body_of sample) start 2)) (zeros 13) (first_run (given_of (body_of sample) start 2)) ≡ (record { function = id.MAIN; event = Write (record { buffer = 0; offset = 8; bits = 32 }) 9 }, 0) ∷ []
target_asks = refl

target_ends : (invocation (given_of (body_of sample) start 2)).status (after (invocation (given_of (body_of sample) start 2)) (zeros 13) (first_run (given_of (body_of sample) start 2))) ≡ Ends
target_ends = refl

-- item 3 is past the buffer of three numbers: undefined at its write, and a trap at the access chain
source_fails : (source_item (surroundings_of launch 3)).status (after (source_item (surroundings_of launch 3)) (zeros 17) (first_state sample)) ≡ Fails
source_fails = refl

target_fails : (invocation (given_of (body_of sample) start 3)).status (after (invocation (given_of (body_of sample) start 3)) (zeros 10) (first_run (given_of (body_of sample) start 3))) ≡ Fails
target_fails = refl

newline : words_text ≡ 119 ∷ 111 ∷ 114 ∷ 100 ∷ 115 ∷ 10 ∷ []
newline = refl

-- the write puts four bytes into the buffer, the lowest first
written : after_event (Write (record { buffer = 0; offset = 8; bits = 32 }) 9) launch.buffers ≡ (0 ∷ 0 ∷ 0 ∷ 0 ∷ 0 ∷ 0 ∷ 0 ∷ 0 ∷ 9 ∷ 0 ∷ 0 ∷ 0 ∷ []) ∷ []
written = refl

-- items 0 and 1 are the first group, and 2 and 3 the second
groups : group_of launch.global launch.local 0 ∷ group_of launch.global launch.local 1 ∷ group_of launch.global launch.local 2 ∷ group_of launch.global launch.local 3 ∷ [] ≡ 0 ∷ 0 ∷ 1 ∷ 1 ∷ []
groups = refl
