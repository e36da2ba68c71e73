-- How long a structure is.
use Rattle.std.specs.Prelude.{ℕ, zero, suc, ◌+◌, ◌*◌, ◌&&◌, ◌==◌, nat_le, if◌then◌else◌, List, [], ◌∷◌, length}
use Rattle.std.specs.Prelude.{Option, Some, None}
use Rattle.acpi_base.specs.Walk.{end_of, rows_of, type_size}
use Rattle.acpi_base.specs.declared.walk.Sizes.{Sizes}
use Rattle.acpi_base.specs.declared.walk.Sizes.TheVariants.{EachOf, ToldAt, ByType}
use Rattle.acpi_text.specs.Form.{number_at}
use Rattle.acpi_text.specs.declared.form.InnerSize.{InnerSize}
use Rattle.acpi_text.specs.declared.form.InnerSize.TheVariants.{Walked, Counted, Rest}
use Rattle.acpi_text.specs.declared.form.InnerList.{InnerList}
use Rattle.acpi_text.specs.declared.form.InnerForm.{InnerForm}
use Rattle.acpi_text.specs.declared.form.Start.{Start}
use Rattle.acpi_text.specs.declared.form.Start.TheVariants.{At, After}

-- a size that isn't below the least, nor zero, where there are as many bytes
abbrev pub size_from : ℕ → ℕ → List ℕ → Option ℕ
size_from least n bytes = if nat_le 1 n && nat_le least n && nat_le n (length bytes) then Some n else None

-- a size that the type of a structure decides
abbrev pub size_told : Option ℕ → List ℕ → Option ℕ
size_told (Some n) bytes = size_from 0 n bytes
size_told None bytes = None

-- the size of the structure with which bytes begin
abbrev pub front_size : Sizes → List ℕ → Option ℕ
front_size (EachOf n) bytes = size_from 0 n bytes
front_size (ToldAt place) bytes = size_from (end_of place) (number_at place bytes) bytes
front_size (ByType kind types) bytes = size_told (type_size kind (rows_of types) bytes) bytes

-- ---- structures within another

-- where they begin
abbrev pub start_in : Start → List ℕ → ℕ
start_in (At offset) whole = offset
start_in (After offset place) whole = offset + number_at place whole

-- the size by which a kind of structure begins bytes
abbrev pub inner_size_of : InnerSize → List ℕ → Option ℕ
inner_size_of (Walked sizes) bytes = front_size sizes bytes
inner_size_of (Counted n count each) bytes = size_from n (n + each * number_at count bytes) bytes
inner_size_of Rest bytes = size_from 0 (length bytes) bytes

-- the form with a number
abbrev pub find_inner : ℕ → List InnerForm → Option InnerForm
find_inner number [] = None
find_inner number (form ∷ forms) = if number == form.number then Some form else find_inner number forms

-- the form of the structure with which bytes begin
abbrev pub inner_form : InnerList → List ℕ → Option InnerForm
inner_form list bytes = find_inner (number_at list.kind bytes) list.forms.now

abbrev pub size_by_form : Option InnerForm → List ℕ → Option ℕ
size_by_form (Some form) bytes = inner_size_of form.size bytes
size_by_form None bytes = None

-- the size of the structure with which bytes begin, if it has a form
abbrev pub inner_size : InnerList → List ℕ → Option ℕ
inner_size list bytes = size_by_form (inner_form list bytes) bytes

-- the size of the next structure, if there may be one more
abbrev pub next_size : ℕ → (List ℕ → Option ℕ) → List ℕ → Option ℕ
next_size zero size bytes = None
next_size (suc n) size bytes = size bytes
