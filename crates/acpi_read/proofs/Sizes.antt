-- Sizes of spellings.
use Rattle.std.proofs.Common.{◌≡◌, ℕ, zero, suc, ◌+◌, ◌^◌, ◌/◌, ◌<◌, ◌≤◌, max, List, [], ◌∷◌, ◌++◌, length, drop, get_or, slice_set, eqb, false, refl, sym, ap, ◌∙◌, append_assoc, arith}
use Rattle.std.proofs.lemmas.List.{append-nil, length-append}
use Rattle.std.proofs.lemmas.Bool.{ne_eqb}
use Rattle.acpi_base.specs.Bytes.{le}
use Rattle.acpi_base.specs.Number.{number_bytes}
use Rattle.acpi_base.proofs.Bytes.{length_le}
use Rattle.acpi_term.proofs.Lengths.{length_long}
use Rattle.acpi_term.specs.declared.term.Term.{Term}
use Rattle.acpi_term.specs.Length.{length_bytes, with_length}
use Rattle.acpi_term.specs.Row.{Layout, bare, framed, layout, connected, entry_bytes}
use Rattle.acpi_term.specs.Spelling.{laid, spelling}
use Rattle.acpi_term.specs.Tree.{connection_buffer, Head, Terms, count}
use Rattle.acpi_term.specs.View.{view, views, single, IsApart}
use Rattle.acpi_read.specs.Size.{capped, own_size, frame_size, content_size, content_sizes, AreSized}
use Rattle.acpi_read.proofs.Texts.{dropped, past}

-- ---- widths

pub length_number : (v w : ℕ) → length (number_bytes v w) ≡ suc w
length_number v zero = refl
length_number v (suc w) =
    let wide : eqb (suc w) 0 ≡ false = ne_eqb _ _ (λ z. omega (arith, z)) in
    rw wide (ap suc (length_le (suc w) v))

pub length_length : (w v : ℕ) → length (length_bytes w v) ≡ max w 1
unfolding length_bytes
length_length zero v = refl
length_length (suc zero) v = refl
length_length (suc (suc k)) v = ap length (length_long k v) ∙ ap suc (length_le (suc k) (v / 16)) ∙ omega arith

pub named_size : (name : List ℕ) (w bits : ℕ) → length (name ++ length_bytes w bits) ≡ length name + max w 1
named_size name w bits = length-append name (length_bytes w bits) ∙ ap (λ (n : ℕ). length name + n) (length_length w bits)

pub connection_size : (w size v : ℕ) (bytes : List ℕ) → length (entry_bytes (connection_buffer w size v bytes)) ≡ (2 + max w 1) + length (connected size v bytes)
connection_size w size v bytes =
    let content = connected size v bytes in
    omega (arith, length-append (length_bytes w (w + length content)) content, length_length w (w + length content))

-- ---- loops that add up to a limit

-- as far as i
pub record Sums {X : Type 0} (each : List X → List ℕ) (xs : List X) (i size : ℕ) : Type 0 where
  pub parts : capped (size + length (each (drop i xs))) ≡ capped (length (each xs))
  pub within : size ≤ 2 ^ 28

pub sums_start : {X : Type 0} (each : List X → List ℕ) (xs : List X) → Sums each xs 0 0
sums_start each xs = record { parts = omega arith; within = omega arith }

module _ {X : Type 0} (each : List X → List ℕ) (xs : List X) (i size : ℕ) (s : Sums each xs i size) where
  pub sums_on : (x : X) (one : List ℕ) (n new : ℕ) → i < length xs → x ≡ get_or xs i x → each (x ∷ drop (i + 1) xs) ≡ one ++ each (drop (i + 1) xs) → n ≡ capped (length one) → new ≡ capped (size + n) → Sums each xs (i + 1) new
  sums_on x one n new inside is step added sum =
      let rest = each (drop (i + 1) xs) in
      let e : length (each (drop i xs)) ≡ length one + length rest = ap (λ (l : List X). length (each l)) (dropped xs i x inside is) ∙ ap length step ∙ length-append one rest in
      let p = s.parts in
      record { parts = omega (arith, e, p, added, sum); within = omega (arith, sum) }

  pub sums_done : each [] ≡ [] → length xs ≤ i → size ≡ capped (length (each xs))
  sums_done none all =
      let e : length (each (drop i xs)) ≡ 0 = ap (λ (l : List X). length (each l)) (past xs i all) ∙ ap length none in
      let p = s.parts in
      let w = s.within in
      omega (arith, e, p, w)

-- ---- a term's own bytes

pub size_after : (s t : List ℕ) → length (s ++ t) ≡ length s + length t
size_after s t = length-append s t

pub size_order : (order : ℕ) → length (le 2 order) ≡ 2
size_order order = length_le 2 order

-- ---- a term over its children

laid_size : (l : Layout) (w : ℕ) (inside : List ℕ) → length (laid l w inside) ≡ (own_size l + length inside) + frame_size l w
laid_size (bare before) w inside = omega (arith, length-append before inside)
laid_size (framed code before after) w inside =
    let content = before ++ (inside ++ after) in
    let v = w + length content in
    omega (arith, length-append code (with_length w content), length-append (length_bytes w v) content, length_length w v, length-append before (inside ++ after), length-append inside after)

-- a term and others
pub spelling_step : (t : Term) (ts : List Term) → spelling (views (t ∷ ts)) ≡ spelling (single (view t)) ++ spelling (views ts)
spelling_step t ts = ap (λ (l : List ℕ). l ++ spelling (views ts)) (sym (append-nil (laid (layout (view t).0 (view t).1 (count (view t).2)) (view t).1 (spelling (view t).2))))

pub sizes_step : (t : Term) (ts : List Term) → content_sizes (views (t ∷ ts)) ≡ content_sizes (single (view t)) ++ content_sizes (views ts)
sizes_step t ts =
    let here = capped (content_size (view t).0 (view t).1 (view t).2) in
    ap (λ (l : List ℕ). here ∷ (l ++ content_sizes (views ts))) (sym (append-nil (content_sizes (view t).2)))

-- terms in two lists
spelling_both : (a b : List Term) → spelling (views (a ++ b)) ≡ spelling (views a) ++ spelling (views b)
spelling_both [] b = refl
spelling_both (t ∷ a) b =
    let here = laid (layout (view t).0 (view t).1 (count (view t).2)) (view t).1 (spelling (view t).2) in
    ap (λ (l : List ℕ). here ++ l) (spelling_both a b) ∙ sym (append_assoc here (spelling (views a)) (spelling (views b)))

pub sizes_both : (a b : List Term) → content_sizes (views (a ++ b)) ≡ content_sizes (views a) ++ content_sizes (views b)
sizes_both [] b = refl
sizes_both (t ∷ a) b =
    let here = capped (content_size (view t).0 (view t).1 (view t).2) in
    let inside = content_sizes (view t).2 in
    ap (λ (l : List ℕ). here ∷ (inside ++ l)) (sizes_both a b) ∙ ap (λ (l : List ℕ). here ∷ l) (sym (append_assoc inside (content_sizes (views a)) (content_sizes (views b))))

-- ---- sizes that are filled in

set_last : (old rest : List ℕ) (x y : ℕ) → slice_set (old ++ x ∷ rest) (length old) y ≡ old ++ y ∷ rest
set_last [] rest x y = refl
set_last (o ∷ old) rest x y = ap (λ (l : List ℕ). o ∷ l) (set_last old rest x y)

module _ (t : Term) (h : Head) (w : ℕ) (a b : List Term) (apart : IsApart t h w a b) (old one two three : List ℕ) (n m : ℕ) (placed : one ≡ old ++ 0 ∷ []) (first : AreSized (views a) one two n) (others : AreSized (views b) two three m) where
  inside_is : three ≡ old ++ 0 ∷ content_sizes (view t).2
  inside_is =
      let p = content_sizes (views a) in
      let q = content_sizes (views b) in
      let joined : p ++ q ≡ content_sizes (view t).2 = sym (sizes_both a b) ∙ ap content_sizes apart.children in
      let both : three ≡ (one ++ p) ++ q = others.added ∙ ap (λ (l : List ℕ). l ++ q) first.added in
      let start : (one ++ p) ++ q ≡ one ++ content_sizes (view t).2 = append_assoc one p q ∙ ap (λ (l : List ℕ). one ++ l) joined in
      both ∙ start ∙ ap (λ (l : List ℕ). l ++ content_sizes (view t).2) placed ∙ append_assoc old (0 ∷ []) (content_sizes (view t).2)

  pub inside_long : length old < length three
  inside_long = omega (arith, ap length inside_is, length-append old (0 ∷ content_sizes (view t).2))

  module _ (place own inside content all : ℕ) (place_is : place ≡ length old) (own_is : own ≡ capped (own_size (layout h w (count (view t).2)))) (inside_sum : inside ≡ capped (n + m)) (sum : content ≡ capped (own + inside)) (framed_is : all ≡ capped (content + frame_size (layout h w (count (view t).2)) w)) where
    pub sized_over : AreSized (single (view t)) old (slice_set three place content) all
    sized_over =
        let c = (view t).2 in
        let l = layout h w (count c) in
        let bytes : length (spelling (views a)) + length (spelling (views b)) ≡ length (spelling c) =
        sym (length-append (spelling (views a)) (spelling (views b))) ∙ ap length (sym (spelling_both a b)) ∙ ap (λ (ts : Terms). length (spelling ts)) apart.children
        in
        let is : content ≡ capped (own_size l + length (spelling c)) = omega (arith, own_is, inside_sum, sum, first.spelled, others.spelled, bytes) in
        let same : content_size h w c ≡ content_size (view t).0 (view t).1 c = ap (λ (k : Head). content_size k w c) apart.head ∙ ap (λ (v : ℕ). content_size (view t).0 v c) apart.width in
        let alone : length (spelling (single (view t))) ≡ (own_size l + length (spelling c)) + frame_size l w =
        ap length (append-nil (laid (layout (view t).0 (view t).1 (count c)) (view t).1 (spelling c)))
        ∙ ap (λ (k : Head). length (laid (layout k (view t).1 (count c)) (view t).1 (spelling c))) (sym apart.head)
        ∙ ap (λ (v : ℕ). length (laid (layout h v (count c)) v (spelling c))) (sym apart.width)
        ∙ laid_size l w (spelling c)
        in
        record {
          added =
              ap (λ (i : ℕ). slice_set three i content) place_is ∙ ap (λ (s : List ℕ). slice_set s (length old) content) inside_is ∙ set_last old (content_sizes c) 0 content
              ∙ ap (λ (x : ℕ). old ++ x ∷ content_sizes c) (is ∙ ap capped same) ∙ ap (λ (s : List ℕ). old ++ capped (content_size (view t).0 (view t).1 c) ∷ s) (sym (append-nil (content_sizes c)));
          spelled = omega (arith, is, framed_is, alone);
        }
