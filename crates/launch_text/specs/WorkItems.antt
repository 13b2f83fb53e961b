-- The values of the work-item functions (OpenCL C 1.2, 6.12.1).
use Rattle.std.specs.Prelude.{ℕ, ◌+◌, ◌*◌, ◌/◌, ◌%◌, nat_lt, if◌then◌else◌, List, [], ◌∷◌, slice_index}
use Rattle.launch_text.specs.declared.launch.LaunchSizes.{LaunchSizes}

-- Three numbers, one for each dimension of the grid.
pub record Sizes : Type 0 where
  pub x : ℕ
  pub y : ℕ
  pub z : ℕ

abbrev pub sizes_of : List ℕ → Sizes
sizes_of s = record { x = slice_index s 0; y = slice_index s 1; z = slice_index s 2 }

abbrev pub sizes_list : Sizes → List ℕ
sizes_list s = s.x ∷ s.y ∷ s.z ∷ []

abbrev pub volume : Sizes → ℕ
volume s = s.x * s.y * s.z

abbrev pub along : ℕ → Sizes → ℕ
along d s = if nat_lt d 1 then s.x else (if nat_lt d 2 then s.y else (if nat_lt d 3 then s.z else 0))

-- Work-items are numbered along x first, then y, then z. Where the item stands in a grid of these sizes:
abbrev pub place_in : Sizes → ℕ → Sizes
place_in s item = record { x = item % s.x; y = (item / s.x) % s.y; z = item / (s.x * s.y) }

-- Groups are numbered in the same way. The number of the group of a work-item, in a grid and groups of these sizes:
abbrev pub group_of : Sizes → Sizes → ℕ → ℕ
group_of global local item =
    let p = place_in global item in
    p.x / local.x + (global.x / local.x) * (p.y / local.y + (global.y / local.y) * (p.z / local.z))

abbrev pub place_of : LaunchSizes → ℕ → Sizes
place_of l item = place_in (sizes_of l.global) item

-- get_work_dim()
abbrev pub work_dim_of : LaunchSizes → ℕ
work_dim_of l = l.dims

-- At or past the work dimension sizes and numbers of groups are 1, and ids are 0.

-- get_global_size(d) and get_local_size(d)
abbrev pub global_size_of : LaunchSizes → ℕ → ℕ
global_size_of l d = if nat_lt d l.dims then along d (sizes_of l.global) else 1

abbrev pub local_size_of : LaunchSizes → ℕ → ℕ
local_size_of l d = if nat_lt d l.dims then along d (sizes_of l.local) else 1

-- get_global_id(d), for a work dimension and the sizes of a grid
abbrev pub global_id_in : ℕ → Sizes → ℕ → ℕ → ℕ
global_id_in dims global item d = if nat_lt d dims then along d (place_in global item) else 0

abbrev pub global_id_of : LaunchSizes → ℕ → ℕ → ℕ
global_id_of l item d = global_id_in l.dims (sizes_of l.global) item d

-- get_num_groups(d)
abbrev pub num_groups_of : LaunchSizes → ℕ → ℕ
num_groups_of l d = if nat_lt d l.dims then along d (sizes_of l.global) / along d (sizes_of l.local) else 1

-- get_group_id(d) and get_local_id(d)
abbrev pub group_id_of : LaunchSizes → ℕ → ℕ → ℕ
group_id_of l item d = if nat_lt d l.dims then along d (place_of l item) / along d (sizes_of l.local) else 0

abbrev pub local_id_of : LaunchSizes → ℕ → ℕ → ℕ
local_id_of l item d = if nat_lt d l.dims then along d (place_of l item) % along d (sizes_of l.local) else 0

-- get_global_offset(d)
abbrev pub global_offset_of : LaunchSizes → ℕ → ℕ
global_offset_of l d = 0
