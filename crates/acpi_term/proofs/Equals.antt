-- Terms of the code with one view are equal.
use Rattle.std.proofs.Common.{◌≡◌, max, List, [], ◌∷◌, Vec, true, false, ℕ, zero, suc, Bool, eqb, refl, sym, ap, subst, ◌∙◌, arith}
use Rattle.std.specs.Prelude.{◌&&◌, map, nat_eq, string_bytes, String}
use Rattle.std.specs.declared.alloc.Global.{Global}
use Rattle.std.specs.Cmp.Lexicographic.{pointwise}
use Rattle.std.specs.String.{string_eq}
use Rattle.std.proofs.lemmas.Bool.Decides.{nat_tests}
use denote.Enum.Bare.{sameb}
use denote.Hole.Compared.{within, compared, settled}
use mathlib.Core.Bool.{beq}
use Rattle.acpi_term.specs.declared.op.Op.{Op}
use Rattle.acpi_term.specs.declared.op.Op.TheVariants.{LNot}
use Rattle.acpi_term.specs.contracts.op.Op.{the_type}
use Rattle.acpi_term.specs.declared.read_error.ReadError.{ReadError}
use Rattle.acpi_term.specs.declared.read_error.ReadError.TheVariants as errors
use Rattle.acpi_term.specs.contracts.read_error.ReadErrorPartialEq.TheImpl.{eq-value as eq-error}
use Rattle.acpi_term.specs.declared.term.TermEntry.{TermEntry}
use Rattle.acpi_term.specs.declared.term.TermEntry.TheVariants.{Named, Reserved, AccessAs, ExtendedAccessAs, Connection, ConnectionBuffer}
use Rattle.acpi_term.specs.contracts.term.TermEntryPartialEq.TheImpl.{eq-value}
use Rattle.acpi_term.specs.declared.term.FieldNames.{FieldNames}
use Rattle.acpi_term.specs.contracts.term.FieldNamesPartialEq.TheImpl.{eq-value as eq-names}
use Rattle.acpi_term.specs.declared.term.Term.{Term}
use Rattle.acpi_term.specs.declared.term.Term.TheOpen.{Term-F}
use Rattle.acpi_term.specs.declared.term.Term.TheFolds.{fold_out-Term, map-Term}
use Rattle.acpi_term.specs.declared.term.Term.TheViews.{out-Term, roll-Term, roll-out-Term}
use Rattle.acpi_term.specs.declared.term.Term.TheBlock.{the_members, the_family, the_depth, member-Term, seen-the_row-Term-0, shape-the_row-Term-0, hidden-the_row-Term-0, shown-the_row-Term-0}
use Rattle.acpi_term.specs.contracts.term.TermPartialEq.TheImpl.{the_step}
use Rattle.acpi_term.specs.contracts.term.TermPartialEq.TheImpl.Laws.{local}
use Rattle.acpi_term.specs.Tree.{Head, number, ones, string, local as local_object, arg, call, def_scope, def_device, def_method, def_power_res, def_field, def_op_region, def_name, def_mutex, def_acquire, def_release, def_buffer, def_package, def_var_package, def_if, def_while, def_else, op, def_external, def_leveled_method, def_processor, def_thermal_zone, def_roomy_package, def_index_field, def_bank_field, def_fatal, match_test, def_timeout, unread}
use Rattle.acpi_term.specs.View.{Parts, entry_view, view, views, view_step}

-- ---- values

both : (a b : Bool) → a ≡ true → b ≡ true → a && b ≡ true
both a b e f = rw (e, f) refl

nat_same : (a b : ℕ) → a ≡ b → eqb a b ≡ true
nat_same a b e = grind (arith, nat_tests)

bytes_itself : (a : List ℕ) → pointwise nat_eq a a ≡ true
bytes_itself [] = refl
bytes_itself (x ∷ a) = both _ _ (nat_same x x refl) (bytes_itself a)

bytes_same : (a b : List ℕ) → a ≡ b → pointwise nat_eq a b ≡ true
bytes_same a b e = rw e (bytes_itself b)

text_same : (s t : String Global) → string_bytes s ≡ string_bytes t → string_eq s t ≡ true
text_same s t e = bytes_same (string_bytes s) (string_bytes t) e

bool_itself : (a : Bool) → beq a a ≡ true
bool_itself true = refl
bool_itself false = refl

bool_same : (a b : Bool) → a ≡ b → beq a b ≡ true
bool_same a b e = rw e (bool_itself b)

op_itself : (o : Op) → sameb the_type o o ≡ true
op_itself LNot = refl
op_itself o = refl

op_same : (a b : Op) → a ≡ b → sameb the_type a b ≡ true
op_same a b e = rw e (op_itself b)

error_itself : (e : ReadError) → eq-error.it e e ≡ true
error_itself errors.Memory = refl
error_itself (errors.Truncated o) = nat_same o o refl
error_itself (errors.Opcode o) = nat_same o o refl
error_itself errors.NameText = refl
error_itself (errors.Length o) = nat_same o o refl
error_itself (errors.Number o) = nat_same o o refl
error_itself (errors.Count o) = nat_same o o refl
error_itself (errors.Flags o) = nat_same o o refl
error_itself (errors.Text o) = nat_same o o refl
error_itself (errors.TooDeep o) = nat_same o o refl
error_itself errors.Arity = refl
error_itself (errors.ShortHeader o) = nat_same o o refl
error_itself (errors.TableLength o) = nat_same o o refl
error_itself (errors.Sum o) = nat_same o o refl
error_itself (errors.Structure o) = nat_same o o refl
error_itself (errors.UnknownSource o) = nat_same o o refl

error_same : (a b : ReadError) → a ≡ b → eq-error.it a b ≡ true
error_same a b e = rw e (error_itself b)

entry_same : (x y : TermEntry) → entry_view x ≡ entry_view y → eq-value.it x y ≡ true
entry_same (Named name bits w) (Named name' bits' w') e =
    let a : name ≡ name' = cc in let b : bits ≡ bits' = cc in let c : w ≡ w' = cc in
    both _ _ (bytes_same name name' a) (both _ _ (nat_same bits bits' b) (nat_same w w' c))
entry_same (Reserved bits w) (Reserved bits' w') e = let b : bits ≡ bits' = cc in let c : w ≡ w' = cc in both _ _ (nat_same bits bits' b) (nat_same w w' c)
entry_same (AccessAs access attribute) (AccessAs access' attribute') e = let a : access ≡ access' = cc in let b : attribute ≡ attribute' = cc in both _ _ (nat_same access access' a) (nat_same attribute attribute' b)
entry_same (ExtendedAccessAs access attribute size) (ExtendedAccessAs access' attribute' size') e =
    let a : access ≡ access' = cc in let b : attribute ≡ attribute' = cc in let c : size ≡ size' = cc in
    both _ _ (nat_same access access' a) (both _ _ (nat_same attribute attribute' b) (nat_same size size' c))
entry_same (Connection name) (Connection name') e = let a : name ≡ name' = cc in bytes_same name name' a
entry_same (ConnectionBuffer w size v bytes) (ConnectionBuffer w' size' v' bytes') e =
    let a : w ≡ w' = cc in let b : size ≡ size' = cc in let c : v ≡ v' = cc in let d : bytes.items ≡ bytes'.items = cc in
    both _ _ (nat_same w w' a) (both _ _ (nat_same size size' b) (both _ _ (nat_same v v' c) (bytes_same bytes.items bytes'.items d)))
entry_same x y e = absurd cc

entries_same : (xs ys : List TermEntry) → map entry_view xs ≡ map entry_view ys → pointwise eq-value.it xs ys ≡ true
entries_same [] [] e = refl
entries_same (x ∷ xs) (y ∷ ys) e = let a : entry_view x ≡ entry_view y = cc in let b : map entry_view xs ≡ map entry_view ys = cc in both _ _ (entry_same x y a) (entries_same xs ys b)
entries_same x y e = absurd cc

names_same : (x y : FieldNames) → x.name ≡ y.name → x.selector ≡ y.selector → eq-names.it x y ≡ true
names_same x y e f = both _ _ (bytes_same x.name y.name e) (bytes_same x.selector y.selector f)

-- ---- terms, as far as a number of steps compares them

abbrev same_at : ℕ → Term → Term → Bool
same_at n t u = within the_members the_family the_depth Bool true the_step n member-Term t u

abbrev AreSame : ℕ → Type 0
AreSame n = (t u : Term) → view t ≡ view u → same_at n t u ≡ true

first_view : (t u : Term) (ts us : List Term) → views (t ∷ ts) ≡ views (u ∷ us) → view t ≡ view u
first_view t u ts us e =
    let a : (view t).0 ≡ (view u).0 = cc in let b : (view t).1 ≡ (view u).1 = cc in let c : (view t).2 ≡ (view u).2 = cc in
    λ i. (a i, b i, c i)

other_views : (t u : Term) (ts us : List Term) → views (t ∷ ts) ≡ views (u ∷ us) → views ts ≡ views us
other_views t u ts us e = cc

lists_same : (n : ℕ) → AreSame n → (xs ys : List Term) → views xs ≡ views ys → pointwise (same_at n) xs ys ≡ true
lists_same n below [] [] e = refl
lists_same n below (x ∷ xs) (y ∷ ys) e = both _ _ (below x y (first_view x y xs ys e)) (lists_same n below xs ys (other_views x y xs ys e))
lists_same n below x y e = absurd cc

abbrev items_of : Vec Term Global → List Term
items_of v = (shown-the_row-Term-0 (shape-the_row-Term-0 v) (hidden-the_row-Term-0 v)).items

rows_same : (n : ℕ) → AreSame n → (v v' : Vec Term Global) → views v.items ≡ views v'.items → pointwise (same_at n) (items_of v) (items_of v') ≡ true
rows_same n below v v' e =
    subst (λ (x : Vec Term Global). pointwise (same_at n) x.items (items_of v') ≡ true) (sym (seen-the_row-Term-0 v))
    (subst (λ (x : Vec Term Global). pointwise (same_at n) v.items x.items ≡ true) (sym (seen-the_row-Term-0 v')) (lists_same n below v.items v'.items e))

seen : Term-F Term → Parts
seen x = view_step (map-Term Term Parts view x)

-- which constructor a head is of, and which a value
tag : Head → ℕ
tag (number v) = 0
tag ones = 1
tag (string s) = 2
tag (local_object k) = 3
tag (arg k) = 4
tag (call a) = 5
tag (def_scope a) = 6
tag (def_device a) = 7
tag (def_method a b c) = 8
tag (def_power_res a b c) = 9
tag (def_field a b c d e) = 10
tag (def_op_region a b) = 11
tag (def_name a) = 12
tag (def_mutex a b) = 13
tag (def_acquire a b) = 14
tag (def_release a) = 15
tag (def_buffer a) = 16
tag def_package = 17
tag def_var_package = 18
tag def_if = 19
tag def_while = 20
tag def_else = 21
tag (op o) = 22
tag (def_external a b c) = 23
tag (def_leveled_method a b c d) = 24
tag (def_processor a b c d) = 25
tag (def_thermal_zone a) = 26
tag (def_roomy_package a) = 27
tag (def_index_field a b c d e f) = 28
tag (def_fatal a b) = 29
tag (match_test a) = 30
tag (def_bank_field a b c d e f) = 31
tag (unread a b) = 32
tag (def_timeout a) = 33

shape : Term-F Term → ℕ
shape (Term-F.Number a b) = 0
shape Term-F.Ones = 1
shape (Term-F.Text a) = 2
shape (Term-F.Local a) = 3
shape (Term-F.Arg a) = 4
shape (Term-F.Call a b) = 5
shape (Term-F.Scope a b c) = 6
shape (Term-F.Device a b c) = 7
shape (Term-F.Method a b c d e) = 8
shape (Term-F.PowerResource a b c d e) = 9
shape (Term-F.Field a b c d e f) = 10
shape (Term-F.OpRegion a b c d) = 11
shape (Term-F.Name a b) = 12
shape (Term-F.Mutex a b) = 13
shape (Term-F.Acquire a b) = 14
shape (Term-F.Release a) = 15
shape (Term-F.Buffer a b c) = 16
shape (Term-F.Package a b) = 17
shape (Term-F.VarPackage a b c) = 18
shape (Term-F.If a b c) = 19
shape (Term-F.While a b c) = 20
shape (Term-F.Else a b) = 21
shape (Term-F.Op a b) = 22
shape (Term-F.External a b c) = 23
shape (Term-F.LeveledMethod a b c d e f) = 24
shape (Term-F.Processor a b c d e f) = 25
shape (Term-F.ThermalZone a b c) = 26
shape (Term-F.RoomyPackage a b c) = 27
shape (Term-F.IndexField a b c d e f) = 28
shape (Term-F.Fatal a b c) = 29
shape (Term-F.MatchTest a b) = 30
shape (Term-F.BankField a b c d e f g) = 31
shape (Term-F.Unread a b) = 32
shape (Term-F.Timeout a) = 33

shape_is : (x : Term-F Term) → tag (seen x).0 ≡ shape x
unfolding seen tag shape
shape_is (Term-F.Number a b) = refl
shape_is Term-F.Ones = refl
shape_is (Term-F.Text a) = refl
shape_is (Term-F.Local a) = refl
shape_is (Term-F.Arg a) = refl
shape_is (Term-F.Call a b) = refl
shape_is (Term-F.Scope a b c) = refl
shape_is (Term-F.Device a b c) = refl
shape_is (Term-F.Method a b c d e) = refl
shape_is (Term-F.PowerResource a b c d e) = refl
shape_is (Term-F.Field a b c d e f) = refl
shape_is (Term-F.OpRegion a b c d) = refl
shape_is (Term-F.Name a b) = refl
shape_is (Term-F.Mutex a b) = refl
shape_is (Term-F.Acquire a b) = refl
shape_is (Term-F.Release a) = refl
shape_is (Term-F.Buffer a b c) = refl
shape_is (Term-F.Package a b) = refl
shape_is (Term-F.VarPackage a b c) = refl
shape_is (Term-F.If a b c) = refl
shape_is (Term-F.While a b c) = refl
shape_is (Term-F.Else a b) = refl
shape_is (Term-F.Op a b) = refl
shape_is (Term-F.External a b c) = refl
shape_is (Term-F.LeveledMethod a b c d e f) = refl
shape_is (Term-F.Processor a b c d e f) = refl
shape_is (Term-F.ThermalZone a b c) = refl
shape_is (Term-F.RoomyPackage a b c) = refl
shape_is (Term-F.IndexField a b c d e f) = refl
shape_is (Term-F.Fatal a b c) = refl
shape_is (Term-F.MatchTest a b) = refl
shape_is (Term-F.BankField a b c d e f g) = refl
shape_is (Term-F.Unread a b) = refl
shape_is (Term-F.Timeout a) = refl

differ : (a b : ℕ) → eqb a b ≡ false → a ≡ b → ⊥
differ a b other e = grind (arith, nat_tests)

same_shape : (x y : Term-F Term) → (seen x).0 ≡ (seen y).0 → shape x ≡ shape y
same_shape x y h = sym (shape_is x) ∙ ap tag h ∙ shape_is y

layer : (n : ℕ) → AreSame n → (x y : Term-F Term) → shape x ≡ shape y → (seen x).0 ≡ (seen y).0 → (seen x).1 ≡ (seen y).1 → (seen x).2 ≡ (seen y).2 → same_at (suc n) (roll-Term x) (roll-Term y) ≡ true
unfolding shape seen within out-Term denote.Hole.Carrier.out roll-Term denote.Hole.Carrier.roll
layer n below (Term-F.Number v a) (Term-F.Number v' b) s h w c = let e : v ≡ v' = cc in both _ _ (nat_same v v' e) (nat_same a b w)
layer n below Term-F.Ones Term-F.Ones s h w c = refl
layer n below (Term-F.Text x) (Term-F.Text y) s h w c = let e : string_bytes x ≡ string_bytes y = cc in text_same x y e
layer n below (Term-F.Local k) (Term-F.Local k') s h w c = let e : k ≡ k' = cc in nat_same k k' e
layer n below (Term-F.Arg k) (Term-F.Arg k') s h w c = let e : k ≡ k' = cc in nat_same k k' e
layer n below (Term-F.Call name args) (Term-F.Call name' args') s h w c = let e : name ≡ name' = cc in both _ _ (bytes_same name name' e) (rows_same n below args args' c)
layer n below (Term-F.Scope a name body) (Term-F.Scope b name' body') s h w c = let e : name ≡ name' = cc in both _ _ (nat_same a b w) (both _ _ (bytes_same name name' e) (rows_same n below body body' c))
layer n below (Term-F.Device a name body) (Term-F.Device b name' body') s h w c = let e : name ≡ name' = cc in both _ _ (nat_same a b w) (both _ _ (bytes_same name name' e) (rows_same n below body body' c))
layer n below (Term-F.Method a args serialized name body) (Term-F.Method b args' serialized' name' body') s h w c =
    let e : name ≡ name' = cc in let f : args ≡ args' = cc in let g : serialized ≡ serialized' = cc in
    both _ _ (nat_same a b w) (both _ _ (nat_same args args' f) (both _ _ (bool_same serialized serialized' g) (both _ _ (bytes_same name name' e) (rows_same n below body body' c))))
layer n below (Term-F.PowerResource a level order name body) (Term-F.PowerResource b level' order' name' body') s h w c =
    let e : name ≡ name' = cc in let f : level ≡ level' = cc in let g : order ≡ order' = cc in
    both _ _ (nat_same a b w) (both _ _ (nat_same level level' f) (both _ _ (nat_same order order' g) (both _ _ (bytes_same name name' e) (rows_same n below body body' c))))
layer n below (Term-F.Field a access lock update name entries) (Term-F.Field b access' lock' update' name' entries') s h w c =
    let e : name ≡ name' = cc in let f : access ≡ access' = cc in let g : lock ≡ lock' = cc in let k : update ≡ update' = cc in
    let l : map entry_view entries.items ≡ map entry_view entries'.items = cc in
    both _ _ (nat_same a b w)
    (both _ _ (nat_same access access' f) (both _ _ (nat_same lock lock' g) (both _ _ (nat_same update update' k) (both _ _ (bytes_same name name' e) (entries_same entries.items entries'.items l)))))
layer n below (Term-F.OpRegion name space offset size) (Term-F.OpRegion name' space' offset' size') s h w c =
    let e : name ≡ name' = cc in let f : space ≡ space' = cc in
    let z : views (size.value ∷ []) ≡ views (size'.value ∷ []) = other_views offset.value offset'.value (size.value ∷ []) (size'.value ∷ []) c in
    both _ _ (bytes_same name name' e) (both _ _ (nat_same space space' f)
    (both _ _ (below offset.value offset'.value (first_view offset.value offset'.value (size.value ∷ []) (size'.value ∷ []) c)) (below size.value size'.value (first_view size.value size'.value [] [] z))))
layer n below (Term-F.Name name value) (Term-F.Name name' value') s h w c =
    let e : name ≡ name' = cc in both _ _ (bytes_same name name' e) (below value.value value'.value (first_view value.value value'.value [] [] c))
layer n below (Term-F.Mutex name level) (Term-F.Mutex name' level') s h w c = let e : name ≡ name' = cc in let f : level ≡ level' = cc in both _ _ (bytes_same name name' e) (nat_same level level' f)
layer n below (Term-F.Acquire name timeout) (Term-F.Acquire name' timeout') s h w c = let e : name ≡ name' = cc in let f : timeout ≡ timeout' = cc in both _ _ (bytes_same name name' e) (nat_same timeout timeout' f)
layer n below (Term-F.Release name) (Term-F.Release name') s h w c = let e : name ≡ name' = cc in bytes_same name name' e
layer n below (Term-F.Buffer a size bytes) (Term-F.Buffer b size' bytes') s h w c =
    let e : bytes.items ≡ bytes'.items = cc in
    both _ _ (nat_same a b w) (both _ _ (below size.value size'.value (first_view size.value size'.value [] [] c)) (bytes_same bytes.items bytes'.items e))
layer n below (Term-F.Package a elements) (Term-F.Package b elements') s h w c = both _ _ (nat_same a b w) (rows_same n below elements elements' c)
layer n below (Term-F.VarPackage a size elements) (Term-F.VarPackage b size' elements') s h w c =
    both _ _ (nat_same a b w) (both _ _ (below size.value size'.value (first_view size.value size'.value elements.items elements'.items c))
    (rows_same n below elements elements' (other_views size.value size'.value elements.items elements'.items c)))
layer n below (Term-F.If a predicate body) (Term-F.If b predicate' body') s h w c =
    both _ _ (nat_same a b w) (both _ _ (below predicate.value predicate'.value (first_view predicate.value predicate'.value body.items body'.items c))
    (rows_same n below body body' (other_views predicate.value predicate'.value body.items body'.items c)))
layer n below (Term-F.While a predicate body) (Term-F.While b predicate' body') s h w c =
    both _ _ (nat_same a b w) (both _ _ (below predicate.value predicate'.value (first_view predicate.value predicate'.value body.items body'.items c))
    (rows_same n below body body' (other_views predicate.value predicate'.value body.items body'.items c)))
layer n below (Term-F.Else a body) (Term-F.Else b body') s h w c = both _ _ (nat_same a b w) (rows_same n below body body' c)
layer n below (Term-F.Op o operands) (Term-F.Op o' operands') s h w c = let e : o ≡ o' = cc in both _ _ (op_same o o' e) (rows_same n below operands operands' c)
layer n below (Term-F.External name kind args) (Term-F.External name' kind' args') s h w c =
    let e : name ≡ name' = cc in let f : kind ≡ kind' = cc in let g : args ≡ args' = cc in both _ _ (bytes_same name name' e) (both _ _ (nat_same kind kind' f) (nat_same args args' g))
layer n below (Term-F.LeveledMethod a args serialized level name body) (Term-F.LeveledMethod b args' serialized' level' name' body') s h w c =
    let e : name ≡ name' = cc in let f : args ≡ args' = cc in let g : serialized ≡ serialized' = cc in let k : level ≡ level' = cc in
    both _ _ (nat_same a b w) (both _ _ (nat_same args args' f) (both _ _ (bool_same serialized serialized' g) (both _ _ (nat_same level level' k) (both _ _ (bytes_same name name' e) (rows_same n below body body' c)))))
layer n below (Term-F.Processor a id size address name body) (Term-F.Processor b id' size' address' name' body') s h w c =
    let e : name ≡ name' = cc in let f : id ≡ id' = cc in let g : address ≡ address' = cc in let k : size ≡ size' = cc in
    both _ _ (nat_same a b w) (both _ _ (nat_same id id' f) (both _ _ (nat_same size size' k) (both _ _ (nat_same address address' g) (both _ _ (bytes_same name name' e) (rows_same n below body body' c)))))
layer n below (Term-F.ThermalZone a name body) (Term-F.ThermalZone b name' body') s h w c = let e : name ≡ name' = cc in both _ _ (nat_same a b w) (both _ _ (bytes_same name name' e) (rows_same n below body body' c))
layer n below (Term-F.RoomyPackage a room elements) (Term-F.RoomyPackage b room' elements') s h w c = let e : room ≡ room' = cc in both _ _ (nat_same a b w) (both _ _ (nat_same room room' e) (rows_same n below elements elements' c))
layer n below (Term-F.IndexField a access lock update names entries) (Term-F.IndexField b access' lock' update' names' entries') s h w c =
    let d : names.value.selector ≡ names'.value.selector = cc in let e : names.value.name ≡ names'.value.name = cc in
    let f : access ≡ access' = cc in let g : lock ≡ lock' = cc in let k : update ≡ update' = cc in
    let l : map entry_view entries.items ≡ map entry_view entries'.items = cc in
    both _ _ (nat_same a b w) (both _ _ (nat_same access access' f) (both _ _ (nat_same lock lock' g) (both _ _ (nat_same update update' k)
    (both _ _ (names_same names.value names'.value e d) (entries_same entries.items entries'.items l)))))
layer n below (Term-F.Fatal kind code argument) (Term-F.Fatal kind' code' argument') s h w c =
    let e : kind ≡ kind' = cc in let f : code ≡ code' = cc in
    both _ _ (nat_same kind kind' e) (both _ _ (nat_same code code' f) (below argument.value argument'.value (first_view argument.value argument'.value [] [] c)))
layer n below (Term-F.MatchTest code operand) (Term-F.MatchTest code' operand') s h w c =
    let e : code ≡ code' = cc in both _ _ (nat_same code code' e) (below operand.value operand'.value (first_view operand.value operand'.value [] [] c))
layer n below (Term-F.BankField a access lock update names value entries) (Term-F.BankField b access' lock' update' names' value' entries') s h w c =
    let d : names.value.name ≡ names'.value.name = cc in let e : names.value.selector ≡ names'.value.selector = cc in
    let f : access ≡ access' = cc in let g : lock ≡ lock' = cc in let k : update ≡ update' = cc in
    let l : map entry_view entries.items ≡ map entry_view entries'.items = cc in
    both _ _ (nat_same a b w) (both _ _ (nat_same access access' f) (both _ _ (nat_same lock lock' g) (both _ _ (nat_same update update' k)
    (both _ _ (names_same names.value names'.value d e) (both _ _ (below value.value value'.value (first_view value.value value'.value [] [] c))
    (entries_same entries.items entries'.items l))))))
layer n below (Term-F.Timeout k) (Term-F.Timeout k') s h w c = let e : k ≡ k' = cc in nat_same k k' e
layer n below (Term-F.Unread error bytes) (Term-F.Unread error' bytes') s h w c =
    let e : error ≡ error' = cc in let f : bytes.items ≡ bytes'.items = cc in both _ _ (error_same error error' e) (bytes_same bytes.items bytes'.items f)
layer n below x y s h w c = absurd (differ (shape x) (shape y) refl s)

within_none : (t u : Term) → same_at zero t u ≡ true
unfolding within
within_none t u = refl

are_same : (n : ℕ) → AreSame n
unfolding seen
are_same zero t u e = within_none t u
are_same (suc n) t u e =
    let f : seen (out-Term t) ≡ seen (out-Term u) = sym (fold_out-Term Parts view_step t) ∙ e ∙ fold_out-Term Parts view_step u in
    let g = layer n (are_same n) (out-Term t) (out-Term u) (same_shape (out-Term t) (out-Term u) (ap (λ (p : Parts). p.0) f)) (ap (λ (p : Parts). p.0) f) (ap (λ (p : Parts). p.1) f) (ap (λ (p : Parts). p.2) f) in
    subst (λ (x : Term). same_at (suc n) x u ≡ true) (roll-out-Term t) (subst (λ (y : Term). same_at (suc n) (roll-Term (out-Term t)) y ≡ true) (roll-out-Term u) g)

-- ---- as code compares them

pub term_equal : (t u : Term) → view t ≡ view u → compared the_members the_family the_depth Bool true the_step member-Term t u ≡ true
term_equal t u e =
    let n = suc (max (the_depth member-Term t) (the_depth member-Term u)) in
    sym (settled the_members the_family the_depth Bool true the_step local n member-Term t u (omega arith) (omega arith)) ∙ are_same n t u e

pub terms_equal : (ts us : List Term) → views ts ≡ views us → pointwise (compared the_members the_family the_depth Bool true the_step member-Term) ts us ≡ true
terms_equal [] [] e = refl
terms_equal (t ∷ ts) (u ∷ us) e = both _ _ (term_equal t u (first_view t u ts us e)) (terms_equal ts us (other_views t u ts us e))
terms_equal ts us e = absurd cc
