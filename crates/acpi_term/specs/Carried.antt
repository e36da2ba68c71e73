-- Terms whose values and widths fit the bytes in which they are written. Names and argument counts don't matter here.
use Rattle.std.specs.Prelude.{◌≡◌, ◌≢◌, ℕ, ◌^◌, ◌<◌, List, ◌++◌, None}
use Rattle.acpi_base.specs.declared.error.Error.{Error}
use Rattle.acpi_base.specs.declared.error.Error.TheVariants.{Memory}
use Rattle.acpi_base.specs.Number.{number_limit}
use Rattle.acpi_term.specs.Tree.{Head, number, def_field, def_leveled_method, def_index_field, def_bank_field}
use Rattle.acpi_term.specs.Tree.{Terms, end, term, count}
use Rattle.acpi_term.specs.declared.term.TermEntry.{TermEntry}
use Rattle.acpi_term.specs.Row.{field_flags, leveled_flags, layout, before_of, own}
use Rattle.acpi_term.specs.Spelling.{spelled, spelling, EntryFits, EntriesFit, HeadFits}
use Rattle.acpi_term.specs.View.{entry_view}

abbrev pub FlagsFit : Head → Type 0
FlagsFit (def_field name access lock update entries) = field_flags access lock update < 2 ^ 8
FlagsFit (def_leveled_method name args serialized level) = leveled_flags args serialized level < 2 ^ 8
FlagsFit (def_index_field index name access lock update entries) = field_flags access lock update < 2 ^ 8
FlagsFit (def_bank_field name bank access lock update entries) = field_flags access lock update < 2 ^ 8
FlagsFit _ = Unit {0}

-- a number fits its width, and so do the entries of a field
abbrev pub ValuesFit : Head → ℕ → Type 0
ValuesFit (number v) w = v < number_limit w
ValuesFit (def_field name access lock update entries) w = EntriesFit entries
ValuesFit (def_index_field index name access lock update entries) w = EntriesFit entries
ValuesFit (def_bank_field name bank access lock update entries) w = EntriesFit entries
ValuesFit _ w = Unit {0}

-- a head of this width with n children, which are spelled by the bytes inside
pub record IsCarried (h : Head) (w n : ℕ) (inside : List ℕ) : Type 0 where
  pub owns : own h n ≡ None
  pub flags : FlagsFit h
  pub fits : HeadFits h w n inside

abbrev pub AreCarried : Terms → Type 0
AreCarried end = Unit {0}
AreCarried (term h w children others) = IsCarried h w (count children) (spelling children) × AreCarried children
    × AreCarried others

-- An error other than `Memory`: the entry doesn't fit its width.
pub record IsUnfit (e : Error) (entry : TermEntry) : Type 0 where
  pub cause : e ≢ Memory → EntryFits (entry_view entry) → ⊥

-- the spelling of terms whose values fit was added to a list
pub record Added (ts : Terms) (old new : List ℕ) : Type 0 where
  pub carried : AreCarried ts
  pub joined : new ≡ old ++ spelling ts

-- an error other than `Memory`: the values of some term don't fit
pub record IsUncarried (e : Error) (ts : Terms) : Type 0 where
  pub cause : e ≢ Memory → AreCarried ts → ⊥

-- the bytes of a head of this width with n children, which are spelled by the bytes inside
pub record Laid (h : Head) (w n : ℕ) (inside bytes : List ℕ) : Type 0 where
  pub carried : IsCarried h w n inside
  pub is : bytes ≡ spelled h w n inside

pub record Unlaid (e : Error) (h : Head) (w n : ℕ) (inside : List ℕ) : Type 0 where
  pub cause : e ≢ Memory → IsCarried h w n inside → ⊥

-- of the heads without a frame, only a number has a width
abbrev pub BareFits : Head → ℕ → Type 0
BareFits (number v) w = Unit {0}
BareFits _ w = w ≡ 0

-- the values of a head fit its bytes
pub record IsOwnCarried (h : Head) (w n : ℕ) : Type 0 where
  pub owns : own h n ≡ None
  pub flags : FlagsFit h
  pub values : ValuesFit h w

-- the bytes of a head before its children
pub record OwnLaid (h : Head) (w n : ℕ) (bytes : List ℕ) : Type 0 where
  pub carried : IsOwnCarried h w n
  pub is : bytes ≡ before_of (layout h w n)

pub record OwnUnlaid (e : Error) (h : Head) (w n : ℕ) : Type 0 where
  pub cause : e ≢ Memory → IsOwnCarried h w n → ⊥
