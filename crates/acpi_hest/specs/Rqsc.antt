-- The RISC-V Quality of Service Controller table (this project's profile).
use Rattle.std.specs.Prelude.{ℕ, ◌+◌, ◌*◌, ◌^◌, ◌≤◌, nat_lt, Bool, List, [], ◌∷◌, ◌++◌, length, codes}
use Rattle.acpi_base.specs.Gas.{register}
use Rattle.acpi_base.specs.Fields.{NamedField, byte, word, dword, hex, one_of, reserved, fields_joined}
use Rattle.acpi_base.specs.Look.{means}
use Rattle.acpi_base.specs.declared.gas.GAS.{GAS}
use Rattle.acpi_base.specs.declared.oem.Oem.{Oem}
use Rattle.acpi_core.specs.Listing.{Listing, length_limit}
use Rattle.acpi_hest.specs.declared.rqsc.ControllerType.{ControllerType}
use Rattle.acpi_hest.specs.declared.rqsc.ControllerType.TheVariants.{Capacity, Bandwidth}
use Rattle.acpi_hest.specs.declared.rqsc.resource.ResourceStructure.{ResourceStructure}
use Rattle.acpi_hest.specs.Resource.{resource_bytes}

-- A table without controllers. At offset 36: the number of controllers, of four bytes.
abbrev pub rqsc : Oem → Listing
rqsc oem = record {
  signature = codes "RQSC";
  revision = 1;
  oem = oem;
  before = [];
  count_width = 4;
  after = [];
  limit = length_limit;
  structures = [];
}

abbrev pub controller_number : ControllerType → ℕ
controller_number Capacity = 0
controller_number Bandwidth = 1

-- a controller, its number of resources, and their bytes
pub record Controller : Type 0 where
  pub kind : ℕ
  pub register : GAS
  pub rcid_count : ℕ
  pub mcid_count : ℕ
  pub flags : ℕ
  pub count : ℕ
  pub resources : List ℕ

-- the length fits its field, and each resource has at least eight bytes
pub record IsController (count : ℕ) (resources : List ℕ) : Type 0 where
  pub fits : 28 + length resources ≤ 0xffff
  pub counted : 8 * count ≤ length resources

abbrev pub controller : ControllerType → GAS → ℕ → ℕ → ℕ → Controller
controller kind register rcid_count mcid_count flags = record {
  kind = controller_number kind;
  register = register;
  rcid_count = rcid_count;
  mcid_count = mcid_count;
  flags = flags;
  count = 0;
  resources = [];
}

-- the words of Controller Type
abbrev pub controller_words : List (ℕ × List ℕ)
controller_words =
    means 0 "Capacity"
    ∷ means 1 "Bandwidth"
    ∷ []

abbrev pub controller_head_fields : Controller → List NamedField
controller_head_fields q =
    one_of controller_words byte "Controller Type" q.kind  -- 0
    ∷ reserved 1  -- 1
    ∷ word "Length" (28 + length q.resources)  -- 2
    ∷ register "Register Interface Address" q.register  -- 4
    ∷ dword "RCID Count" q.rcid_count  -- 16
    ∷ dword "MCID Count" q.mcid_count  -- 20
    ∷ hex word "Controller Flags" q.flags  -- 24
    ∷ word "Number of Resources" q.count  -- 26
    ∷ []

abbrev pub controller_head : Controller → List ℕ
controller_head q = fields_joined (controller_head_fields q)

abbrev pub controller_bytes : Controller → List ℕ
controller_bytes q = controller_head q ++ q.resources  -- 28: Resource Structures

-- the controller with one more resource at its end
abbrev pub with_resource : Controller → ResourceStructure → Controller
with_resource q r = record q { count = q.count + 1; resources = q.resources ++ resource_bytes r }

-- the length then still fits its field
abbrev pub has_room_for : Controller → ResourceStructure → Bool
has_room_for q r = nat_lt (28 + length q.resources + length (resource_bytes r)) (2 ^ 16)
