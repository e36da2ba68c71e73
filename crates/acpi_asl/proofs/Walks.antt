-- Texts of terms one after another, and of a term around its children.
use Rattle.std.proofs.Common.{◌≡◌, ℕ, ◌+◌, ◌<◌, ◌≤◌, Bool, true, false, List, [], ◌∷◌, ◌++◌, length, get_or, drop, refl, sym, ap, ◌∙◌, append_assoc}
use Rattle.std.proofs.lemmas.List.{append-nil, length-append}
use Rattle.acpi_read.proofs.Lines.{count_views}
use Rattle.acpi_read.proofs.Texts.{dropped, past, after_two, after_three}
use Rattle.acpi_term.specs.declared.term.Term.{Term}
use Rattle.acpi_term.specs.Tree.{Head, Terms, count}
use Rattle.acpi_term.specs.View.{view, views, single, IsApart}
use Rattle.acpi_asl.specs.declared.place.Place.{Place}
use Rattle.acpi_asl.proofs.Pieces.{after_five}
use Rattle.acpi_asl.specs.Asl.{around, texts, whole, place_after, AreWritten}
use Rattle.acpi_asl.specs.Note.{note}
use Rattle.acpi_asl.specs.Opening.{opening}
use Rattle.acpi_asl.specs.Place.{place, place_in, next, is_statement, is_left_out, depth_in, before, after, closed}
use Rattle.acpi_asl.specs.Row.{rows}
use Rattle.acpi_asl.specs.Special.{is_external_block, block_note, is_special, special_text}
use Rattle.std.specs.Prelude.{if◌then◌else◌}

-- the place after a term
abbrev beyond : Place → Term → Place
beyond p t = next p (is_external_block (view t).0 (view t).2)

texts_step : (p : Place) (d : ℕ) (t : Term) (ts : List Term) → texts p d (views (t ∷ ts)) ≡ texts p d (single (view t)) ++ texts (beyond p t) d (views ts)
texts_step p d t ts = ap (λ (l : List ℕ). l ++ texts (beyond p t) d (views ts)) (sym (append-nil _))

texts_both : (p : Place) (d : ℕ) (a b : List Term) → texts p d (views (a ++ b)) ≡ texts p d (views a) ++ texts (place_after p (views a)) d (views b)
texts_both p d [] b = refl
texts_both p d (t ∷ a) b =
    let here = texts p d (single (view t)) in
    let rest = texts (place_after (beyond p t) (views a)) d (views b) in
    texts_step p d t (a ++ b) ∙ ap (λ (l : List ℕ). here ++ l) (texts_both (beyond p t) d a b) ∙ sym (append_assoc here (texts (beyond p t) d (views a)) rest)
    ∙ ap (λ (l : List ℕ). l ++ rest) (sym (texts_step p d t a))

-- ---- terms one after another

-- as far as i
pub record Going (p : Place) (d : ℕ) (ts : List Term) (i : ℕ) (left : Place) (old now : List ℕ) : Type 0 where
  pub text : now ++ texts left d (views (drop i ts)) ≡ old ++ texts p d (views ts)
  pub places : place_after left (views (drop i ts)) ≡ place_after p (views ts)

pub going_start : (p : Place) (d : ℕ) (ts : List Term) (old : List ℕ) → Going p d ts 0 p old old
going_start p d ts old = record { text = refl; places = refl }

module _ (p : Place) (d : ℕ) (ts : List Term) (i : ℕ) (left : Place) (old now : List ℕ) (g : Going p d ts i left old now) where
  pub going_on : (t : Term) → i < length ts → t ≡ get_or ts i t → (new : List ℕ) → new ≡ now ++ texts left d (single (view t)) → (after_it : Place) → after_it ≡ next left (is_external_block (view t).0 (view t).2) → Going p d ts (i + 1) after_it old new
  going_on t inside is new added after_it it_is =
      let o = drop (i + 1) ts in
      let here = texts left d (single (view t)) in
      let rest = texts (beyond left t) d (views o) in
      record {
        text = ap (λ (q : Place). new ++ texts q d (views o)) it_is ∙ ap (λ (l : List ℕ). l ++ rest) added ∙ append_assoc now here rest
            ∙ ap (λ (l : List ℕ). now ++ l) (sym (texts_step left d t o)) ∙ ap (λ (l : List Term). now ++ texts left d (views l)) (sym (dropped ts i t inside is)) ∙ g.text;
        places = ap (λ (q : Place). place_after q (views o)) it_is ∙ ap (λ (l : List Term). place_after left (views l)) (sym (dropped ts i t inside is)) ∙ g.places;
      }

  pub going_done : length ts ≤ i → AreWritten p d (views ts) left old now
  going_done all = record {
    added = sym (append-nil now) ∙ ap (λ (l : List Term). now ++ texts left d (views l)) (sym (past ts i all)) ∙ g.text;
    place = ap (λ (l : List Term). place_after left (views l)) (sym (past ts i all)) ∙ g.places;
  }

-- ---- one term

pub one_written : (p : Place) (d : ℕ) (t : Term) (h : Head) (w : ℕ) (a b : List Term) → IsApart t h w a b → (out : Bool) (e : ℕ)
    → out ≡ is_left_out p h w → e ≡ depth_in p d
    → (old one two three four new : List ℕ) → one ≡ old ++ before p out d → two ≡ one ++ note h w (views (a ++ b))
    → three ≡ two ++ block_note p h (views (a ++ b)) → four ≡ three ++ whole p e (h, w, views (a ++ b)) → new ≡ four ++ after p d
    → new ≡ old ++ texts p d (single (view t))
one_written p d t h w a b apart out e out_is e_is old one two three four new q noted blocked r s =
    let v = view t in
    let n = note v.0 v.1 v.2 in
    let k = block_note p v.0 v.2 in
    let out_here : out ≡ is_left_out p v.0 v.1 = out_is ∙ ap (λ (k : Head). is_left_out p k w) apart.head ∙ ap (is_left_out p v.0) apart.width in
    let note_here : note h w (views (a ++ b)) ≡ note v.0 v.1 v.2 =
    ap (note h w) apart.children ∙ ap (λ (x : Head). note x w v.2) apart.head ∙ ap (λ (x : ℕ). note v.0 x v.2) apart.width
    in
    let block_here : block_note p h (views (a ++ b)) ≡ k = ap (block_note p h) apart.children ∙ ap (λ (x : Head). block_note p x v.2) apart.head in
    let whole_here : whole p e (h, w, views (a ++ b)) ≡ whole p e v =
    ap (λ (c : Terms). whole p e (h, w, c)) apart.children ∙ ap (λ (k : Head). whole p e (k, w, v.2)) apart.head
    ∙ ap (λ (k : ℕ). whole p e (v.0, k, v.2)) apart.width
    in
    after_five old (before p out d) n k (whole p e v) (after p d) one two three four new q
    (noted ∙ ap (λ (l : List ℕ). one ++ l) note_here) (blocked ∙ ap (λ (l : List ℕ). two ++ l) block_here) (r ∙ ap (λ (l : List ℕ). three ++ l) whole_here) s
    ∙ ap (λ (x : Bool). old ++ ((((before p x d ++ n) ++ k) ++ whole p e v) ++ after p d)) out_here
    ∙ ap (λ (x : ℕ). old ++ ((((before p (is_left_out p v.0 v.1) d ++ n) ++ k) ++ whole p x v) ++ after p d)) e_is
    ∙ ap (λ (l : List ℕ). old ++ l) (sym (append-nil _))

module _ (p : Place) (h : Head) (w : ℕ) (a b : List Term) (special : Bool) (special_is : special ≡ is_special p h w (views (a ++ b))) where
  pub special_written : (d : ℕ) → special ≡ true → (old new : List ℕ) → new ≡ old ++ special_text p h w (views (a ++ b)) d
      → new ≡ old ++ whole p d (h, w, views (a ++ b))
  special_written d is old new q =
      let c = views (a ++ b) in
      let text : List ℕ = around (is_statement p) h w (count c) d (texts (place_in p h (count c)) d c) in
      q ∙ ap (λ (k : Bool). old ++ (if k then special_text p h w c d else text)) (sym is ∙ special_is)

  pub whole_written : (statement : Bool) (d n : ℕ) (inside left last : Place)
      → special ≡ false → statement ≡ is_statement p → n ≡ length a + length b → inside ≡ place_in p h n
      → (old one two three new : List ℕ) → one ≡ old ++ opening statement h w n d → AreWritten inside d (views a) left one two
      → AreWritten left d (views b) last two three → new ≡ three ++ (rows h d ++ closed inside.body d)
      → new ≡ old ++ whole p d (h, w, views (a ++ b))
  whole_written statement d n inside left last plain statement_is counted inside_is old one two three new opens first others ends =
      let c = views (a ++ b) in
      let n_is : n ≡ count c = counted ∙ sym (length-append a b) ∙ sym (count_views (a ++ b)) in
      let both : texts inside d (views a) ++ texts left d (views b) ≡ texts inside d c =
      ap (λ (q : Place). texts inside d (views a) ++ texts q d (views b)) first.place ∙ sym (texts_both inside d a b)
      in
      let text : List ℕ = texts (place_in p h n) d c in
      let children : three ≡ one ++ text =
      after_two one (texts inside d (views a)) (texts left d (views b)) two three first.added others.added
      ∙ ap (λ (l : List ℕ). one ++ l) both ∙ ap (λ (q : Place). one ++ texts q d c) inside_is
      in
      let ended : new ≡ three ++ (rows h d ++ closed (place h n).body d) = ends ∙ ap (λ (q : Place). three ++ (rows h d ++ closed q.body d)) inside_is in
      let joined : new ≡ old ++ ((opening statement h w n d ++ text) ++ (rows h d ++ closed (place h n).body d)) =
      after_three old (opening statement h w n d) text (rows h d ++ closed (place h n).body d) one three new opens children ended
      in
      joined ∙ ap (λ (l : List ℕ). old ++ l) (sym (append_assoc (opening statement h w n d ++ text) (rows h d) (closed (place h n).body d)))
      ∙ ap (λ (k : ℕ). old ++ around statement h w k d (texts (place_in p h k) d c)) n_is
      ∙ ap (λ (s : Bool). old ++ around s h w (count c) d (texts (place_in p h (count c)) d c)) statement_is
      ∙ ap (λ (k : Bool). old ++ (if k then special_text p h w c d else around (is_statement p) h w (count c) d (texts (place_in p h (count c)) d c))) (sym plain ∙ special_is)
