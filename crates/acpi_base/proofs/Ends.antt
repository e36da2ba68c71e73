-- What is added to a table ends its contents, and what any list of calls makes of it.
use Rattle.std.proofs.Common.{◌≡◌, ℕ, ◌+◌, ◌<◌, ◌≤◌, ◌^◌, List, [], ◌∷◌, ◌++◌, length, take, drop, refl, sym, ap, subst, ◌∙◌, arith, append_assoc, length-append}
use Rattle.std.specs.Prelude.{sum, Ok, Err}
use Rattle.std.proofs.lemmas.List.{append-nil, take-append-drop, length-take-le, drop_at}
use Rattle.acpi_base.specs.Bytes.{le, put, complement}
use Rattle.acpi_base.specs.Sdt.{Contents, added}
use Rattle.acpi_base.specs.SdtCalls.{SdtCall, adds, appends, writes, AreSdtCalls, sdt_after, changed, AreAdditions, contents}
use Rattle.acpi_base.specs.SdtCalls.{LeaveHeader, IsValidAfter, IsValidAfterItsCalls}
use Rattle.acpi_base.specs.Table.{IsTrueTable}
use Rattle.acpi_base.specs.Laws.{AddedEnds, SdtsAreTheirCalls}
use Rattle.acpi_base.proofs.Bytes.{length_le}
use Rattle.acpi_base.proofs.Puts.{put-append, length-put}
use Rattle.acpi_base.proofs.Tables.{added_added, length-added, added_is_true, overwritten_is_zero, overwritten_is_true}

pub drop_put : (n i : ℕ) (a x : List ℕ) → i + length a ≤ n → n ≤ length x → drop n (put i a x) ≡ drop n x
drop_put n i a x within long =
    let t = take n x in
    let len : length t ≡ n = length-take-le n x long in
    let cut : put i a x ≡ put i a t ++ drop n x = ap (put i a) (sym (take-append-drop n x)) ∙ put-append i a t (drop n x) (omega (arith, within, len)) in
    ap (drop n) cut ∙ drop_at (put i a t) (drop n x) n (length-put i a t (omega (arith, within, len)) ∙ len)

drop_front : (n : ℕ) (x y : List ℕ) → n ≤ length x → drop n (x ++ y) ≡ drop n x ++ y
drop_front n x y long =
    let cut : x ++ y ≡ take n x ++ (drop n x ++ y) = ap (λ l. l ++ y) (sym (take-append-drop n x)) ∙ append_assoc (take n x) (drop n x) y in
    ap (drop n) cut ∙ drop_at (take n x) (drop n x ++ y) n (length-take-le n x long)

pub added_ends : AddedEnds
added_ends at table [] after within = sym (append-nil (drop at table))
added_ends at table (b ∷ bytes) after within =
    let x = table ++ b ∷ bytes in
    let l = le 4 (length x) in
    let y = put 4 l x in
    let k = complement (sum (put 9 (0 ∷ []) y)) ∷ [] in
    let more : at ≤ length x = omega (arith, within, length-append table (b ∷ bytes)) in
    let four : length l ≡ 4 = length_le 4 (length x) in
    let kept : length y ≡ length x = length-put 4 l x (omega (arith, four, after, more)) in
    drop_put at 9 k y (omega (arith, after)) (omega (arith, kept, more)) ∙ drop_put at 4 l x (omega (arith, four, after)) more ∙ drop_front at table (b ∷ bytes) within

-- ---- any list of calls

is : (t : Contents) (calls : List SdtCall) → AreSdtCalls t calls → (sdt_after t calls).bytes ≡ changed t.bytes calls
is t [] c = refl
is t (adds bytes (Ok u) next ∷ calls) c = is next calls c.1 ∙ ap (λ b. changed b calls) c.0.ok
is t (adds bytes (Err e) next ∷ calls) c = is next calls c.1 ∙ ap (λ n. changed n.bytes calls) c.0.err
is t (appends bytes next ∷ calls) c = is next calls c.1 ∙ ap (λ b. changed b calls) c.0
is t (writes offset bytes next ∷ calls) c = is next calls c.1 ∙ ap (λ b. changed b calls) c.0.is

at_once : (table : List ℕ) (calls : List SdtCall) → 36 ≤ length table → AreAdditions calls → changed table calls ≡ added table (contents calls)
at_once table [] long only = refl
at_once table (adds bytes (Ok u) next ∷ calls) long only =
    at_once (added table bytes) calls (omega (arith, length-added table bytes (omega (arith, long)), long)) only ∙ added_added table bytes (contents calls) (omega (arith, long))
at_once table (adds bytes (Err e) next ∷ calls) long only = at_once table calls long only
at_once table (appends bytes next ∷ calls) long only =
    at_once (added table bytes) calls (omega (arith, length-added table bytes (omega (arith, long)), long)) only ∙ added_added table bytes (contents calls) (omega (arith, long))
at_once table (writes offset bytes next ∷ calls) long only = absurd only

pub sdts_are_their_calls : SdtsAreTheirCalls
sdts_are_their_calls start calls long c = record {
  is = is start calls c;
  additions = λ only. is start calls c ∙ at_once start.bytes calls long only;
}

-- ---- calls that leave the header

added_longer : (table bytes : List ℕ) → 36 ≤ length table → length (added table bytes) ≡ length table + length bytes
added_longer table bytes long = length-added table bytes (omega (arith, long))

-- calls don't make a table shorter
longer : (t : Contents) (calls : List SdtCall) → 36 ≤ length t.bytes → AreSdtCalls t calls → LeaveHeader t calls
    → length t.bytes ≤ length (sdt_after t calls).bytes
longer t [] long c leave = omega arith
longer t (adds bytes (Ok u) next ∷ calls) long c leave =
    let size : length next.bytes ≡ length t.bytes + length bytes = ap length c.0.ok ∙ added_longer t.bytes bytes long in
    omega (arith, size, longer next calls (omega (arith, size, long)) c.1 leave)
longer t (adds bytes (Err e) next ∷ calls) long c leave =
    let size : length next.bytes ≡ length t.bytes = ap (λ n. length n.bytes) c.0.err in
    omega (arith, size, longer next calls (omega (arith, size, long)) c.1 leave)
longer t (appends bytes next ∷ calls) long c leave =
    let size : length next.bytes ≡ length t.bytes + length bytes = ap length c.0 ∙ added_longer t.bytes bytes long in
    omega (arith, size, longer next calls (omega (arith, size, long)) c.1 leave)
longer t (writes offset bytes next ∷ calls) long c leave =
    let size : length next.bytes ≡ length t.bytes = ap length c.0.is ∙ (overwritten_is_zero t.bytes bytes offset long leave.1).1 in
    omega (arith, size, longer next calls (omega (arith, size, long)) c.1 leave.2)

-- a valid table to which bytes are added is valid, if they fit
added_stays_true : (table bytes : List ℕ) → IsTrueTable table → length table + length bytes < 2 ^ 32 → IsTrueTable (added table bytes)
added_stays_true table [] valid fits = valid
added_stays_true table (b ∷ bytes) valid fits = (added_is_true table (b ∷ bytes) valid.header (omega arith) fits).0

stays_true : (t : Contents) (calls : List SdtCall) → IsTrueTable t.bytes → AreSdtCalls t calls → LeaveHeader t calls
    → length (sdt_after t calls).bytes < 2 ^ 32 → IsTrueTable (sdt_after t calls).bytes
stays_true t [] valid c leave fits = valid
stays_true t (adds bytes (Ok u) next ∷ calls) valid c leave fits =
    stays_true next calls (rw c.0.ok (added_stays_true t.bytes bytes valid c.0.fits)) c.1 leave fits
stays_true t (adds bytes (Err e) next ∷ calls) valid c leave fits = stays_true next calls (rw c.0.err valid) c.1 leave fits
stays_true t (appends bytes next ∷ calls) valid c leave fits =
    let size : length next.bytes ≡ length t.bytes + length bytes = ap length c.0 ∙ added_longer t.bytes bytes valid.header in
    let more = longer next calls (omega (arith, size, valid.header)) c.1 leave in
    stays_true next calls (rw c.0 (added_stays_true t.bytes bytes valid (omega (arith, size, more, fits)))) c.1 leave fits
stays_true t (writes offset bytes next ∷ calls) valid c leave fits =
    stays_true next calls (rw c.0.is (overwritten_is_true t.bytes bytes offset valid leave.0 leave.1)) c.1 leave.2 fits

pub is_valid_after_its_calls : (last : Contents) → length last.bytes < 2 ^ 32 → IsValidAfterItsCalls last
is_valid_after_its_calls last fits = record {
  holds = λ start calls valid c leave ends.
      subst (λ (t : Contents). IsValidAfter start calls t) ends (record {
        is = is start calls c;
        valid = stays_true start calls valid c leave (rw ends fits);
      });
}
