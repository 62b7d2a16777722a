-- The names of a written module are different names of the grammar.
use Rattle.std.proofs.Common.{◌≡◌, ℕ, suc, ◌+◌, ◌<◌, ◌^◌, Bool, true, false, ◌&&◌, cond, List, [], ◌∷◌, ◌++◌, length, Option, None, Some, slice_get, refl, sym, ◌∙◌, ap, arith, subst, ◌⊎◌, inl, inr}
use Rattle.std.specs.Prelude.{nat_eq, codes, bytes_eq}
use Rattle.std.specs.Fmt.{decimal}
use Rattle.std.proofs.lemmas.Bool.{eqb-true, false_from_ne_true}
use Rattle.std.proofs.lemmas.Option.{slice_get_within}
use Rattle.net_graph.specs.declared.cell.Cell.{Cell}
use Rattle.net_graph.specs.declared.cell.Item.{Item}
use Rattle.net_graph.specs.declared.cell.Item.TheVariants.{Input, Constant, Add, Sub, Shl, Shr, Mux, Equal, Bits, Register}
use Rattle.net_graph.specs.declared.name.Name.{Name}
use Rattle.net_graph.specs.declared.name.NameKind.{NameKind}
use Rattle.net_graph.specs.declared.name.NameKind.TheVariants.{Control, Window, Copy, PreAdder, Register as Other, Table, Output, Valid}
use Rattle.net_graph.specs.Name.{is_input}
use Rattle.net_graph.specs.WellFormed.{IsNetlist, IsNamed}
use Rattle.verilog_tree.specs.Renaming.{number_in, AreDistinct}
use Rattle.verilog_text.specs.Lexer.{words}
use Rattle.verilog_text.specs.Layout.{IsName}
use Rattle.verilog_text.specs.Shortest.{AllFormed}
use Rattle.net_module.specs.Written.{unless, nameless, text_for, node_text, node_texts, written_module}
use Rattle.net_text.specs.Small.{AreSmall}
use Rattle.net_text.proofs.Spelled.{Shape, Ctl, CtlNode, InGroup, OutQ, shape_text, IsSmallShape, shape_name, shape_same}

false_true : false ≡ true → ⊥
false_true h = cc

-- ---- the shape of a node's name

abbrev pub nameless_shape : ℕ → ℕ → Shape
nameless_shape group place = cond (nat_eq group 0) (CtlNode place) (InGroup group 110 place)

abbrev pub kind_shape : NameKind → ℕ → ℕ → ℕ → ℕ → Shape
kind_shape Control named number group place = Ctl number
kind_shape Window named number group place = InGroup named 119 number
kind_shape Copy named number group place = InGroup named 118 number
kind_shape PreAdder named number group place = InGroup named 112 number
kind_shape Other named number group place = InGroup named 97 number
kind_shape Table named number group place = InGroup named 116 number
kind_shape Output named number group place = OutQ
kind_shape Valid named number group place = nameless_shape group place

abbrev pub shape_for : Option Name → ℕ → ℕ → Shape
shape_for None group place = nameless_shape group place
shape_for (Some name) group place = kind_shape name.kind name.group name.number group place

nameless_text : (group place : ℕ) → nameless group place ≡ shape_text (nameless_shape group place)
nameless_text group place = by (nat_eq group 0)
  where
    by : (b : Bool) → cond b (codes "ctl_n" ++ decimal place) (codes "s" ++ (decimal group ++ (codes "_n" ++ decimal place))) ≡ shape_text (cond b (CtlNode place) (InGroup group 110 place))
    by true = refl
    by false = refl

kind_text : (kind : NameKind) (named number group place : ℕ) → text_for (Some (record { group = named; kind = kind; number = number })) group place ≡ shape_text (kind_shape kind named number group place)
kind_text Control named number group place = refl
kind_text Window named number group place = refl
kind_text Copy named number group place = refl
kind_text PreAdder named number group place = refl
kind_text Other named number group place = refl
kind_text Table named number group place = refl
kind_text Output named number group place = refl
kind_text Valid named number group place = nameless_text group place

pub text_shape : (name : Option Name) (group place : ℕ) → text_for name group place ≡ shape_text (shape_for name group place)
text_shape None group place = nameless_text group place
text_shape (Some name) group place = kind_text name.kind name.group name.number group place

nameless_small : (group place : ℕ) → group < 2 ^ 64 → place < 2 ^ 64 → IsSmallShape (nameless_shape group place)
nameless_small group place g p = by (nat_eq group 0)
  where
    by : (b : Bool) → IsSmallShape (cond b (CtlNode place) (InGroup group 110 place))
    by true = p
    by false = (g, p, refl)

kind_small : (kind : NameKind) (named number group place : ℕ) → named < 2 ^ 64 → number < 2 ^ 64 → group < 2 ^ 64 → place < 2 ^ 64 → IsSmallShape (kind_shape kind named number group place)
kind_small Control named number group place m n g p = n
kind_small Window named number group place m n g p = (m, n, refl)
kind_small Copy named number group place m n g p = (m, n, refl)
kind_small PreAdder named number group place m n g p = (m, n, refl)
kind_small Other named number group place m n g p = (m, n, refl)
kind_small Table named number group place m n g p = (m, n, refl)
kind_small Output named number group place m n g p = tt
kind_small Valid named number group place m n g p = nameless_small group place g p

-- ---- what a shape tells of a node

data Key : Type 0 where
  AtPlace : (place : ℕ) → Key
  Called : (group : ℕ) (kind : NameKind) (number : ℕ) → Key

abbrev letter_key : ℕ → ℕ → ℕ → Key
letter_key group letter number =
    cond (nat_eq letter 110) (AtPlace number) (cond (nat_eq letter 119) (Called group Window number) (cond (nat_eq letter 118) (Called group Copy number)
    (cond (nat_eq letter 112) (Called group PreAdder number) (cond (nat_eq letter 97) (Called group Other number) (Called group Table number)))))

abbrev key_of : Shape → Key
key_of (Ctl number) = Called 0 Control number
key_of (CtlNode place) = AtPlace place
key_of (InGroup group letter number) = letter_key group letter number
key_of OutQ = Called 0 Output 0

nameless_key : (group place : ℕ) → key_of (nameless_shape group place) ≡ AtPlace place
nameless_key group place = by (nat_eq group 0)
  where
    by : (b : Bool) → key_of (cond b (CtlNode place) (InGroup group 110 place)) ≡ AtPlace place
    by true = refl
    by false = refl

-- a node is told by its place or by its name
abbrev Told : Cell → ℕ → Type 0
Told cell place = (key_of (shape_for cell.name cell.group place) ≡ AtPlace place) ⊎ ((name : Name) × (cell.name ≡ Some name) × (key_of (shape_for cell.name cell.group place) ≡ Called name.group name.kind name.number))

abbrev OfKind : NameKind → ℕ → ℕ → Option Item → Type 0
OfKind kind named number item = IsNamed (Some (record { group = named; kind = kind; number = number })) item

control_group : (named number : ℕ) (item : Option Item) → OfKind Control named number item → named ≡ 0
control_group named number None n = n
control_group named number (Some Input) n = absurd n
control_group named number (Some (Constant v)) n = absurd n
control_group named number (Some (Add a b)) n = absurd n
control_group named number (Some (Sub a b)) n = absurd n
control_group named number (Some (Shl a k)) n = absurd n
control_group named number (Some (Shr a k)) n = absurd n
control_group named number (Some (Mux on a b)) n = absurd n
control_group named number (Some (Equal a b)) n = absurd n
control_group named number (Some (Bits a high low)) n = absurd n
control_group named number (Some (Register next)) n = n

output_group : (named number : ℕ) (item : Option Item) → OfKind Output named number item → (named ≡ 0) × (number ≡ 0)
output_group named number None n = n
output_group named number (Some Input) n = absurd n
output_group named number (Some (Constant v)) n = absurd n
output_group named number (Some (Add a b)) n = absurd n
output_group named number (Some (Sub a b)) n = absurd n
output_group named number (Some (Shl a k)) n = absurd n
output_group named number (Some (Shr a k)) n = absurd n
output_group named number (Some (Mux on a b)) n = absurd n
output_group named number (Some (Equal a b)) n = absurd n
output_group named number (Some (Bits a high low)) n = absurd n
output_group named number (Some (Register next)) n = n

kind_told : (kind : NameKind) (named number group place : ℕ) (item : Option Item) → OfKind kind named number item
    → (key_of (kind_shape kind named number group place) ≡ AtPlace place) ⊎ (key_of (kind_shape kind named number group place) ≡ Called named kind number)
kind_told Control named number group place item n = inr (ap (λ (g : ℕ). Called g Control number) (sym (control_group named number item n)))
kind_told Window named number group place item n = inr refl
kind_told Copy named number group place item n = inr refl
kind_told PreAdder named number group place item n = inr refl
kind_told Other named number group place item n = inr refl
kind_told Table named number group place item n = inr refl
kind_told Output named number group place item n =
    let both = output_group named number item n in inr (λ i. Called (sym both.0 i) Output (sym both.1 i))
kind_told Valid named number group place item n = inl (nameless_key group place)

told : (cell : Cell) (place : ℕ) → IsNamed cell.name cell.item → Told cell place
told cell place named = by cell.name refl named
  where
    by : (name : Option Name) → cell.name ≡ name → IsNamed cell.name cell.item → Told cell place
    by None e n = inl (ap (λ (o : Option Name). key_of (shape_for o cell.group place)) e ∙ nameless_key cell.group place)
    by (Some name) e n = which (kind_told name.kind name.group name.number cell.group place cell.item (subst (λ (o : Option Name). IsNamed o cell.item) e n))
      where
        which : (key_of (kind_shape name.kind name.group name.number cell.group place) ≡ AtPlace place) ⊎ (key_of (kind_shape name.kind name.group name.number cell.group place) ≡ Called name.group name.kind name.number) → Told cell place
        which (inl k) = inl (ap (λ (o : Option Name). key_of (shape_for o cell.group place)) e ∙ k)
        which (inr k) = inr (name, e, ap (λ (o : Option Name). key_of (shape_for o cell.group place)) e ∙ k)

place_same : (j k : ℕ) → AtPlace j ≡ AtPlace k → j ≡ k
place_same j k e = cc

never : (j g n : ℕ) (kind : NameKind) → AtPlace j ≡ Called g kind n → ⊥
never j g n kind e = cc

called_same : (g h m n : ℕ) (kind other : NameKind) → Called g kind m ≡ Called h other n → (g ≡ h) × (kind ≡ other) × (m ≡ n)
called_same g h m n kind other e = (first, second, third)
  where
    first : g ≡ h
    first = cc

    second : kind ≡ other
    second = cc

    third : m ≡ n
    third = cc

-- ---- bytes

bytes_same : (xs ys : List ℕ) → bytes_eq xs ys ≡ true → xs ≡ ys
bytes_same [] [] e = refl
bytes_same [] (y ∷ ys) e = absurd (false_true e)
bytes_same (x ∷ xs) [] e = absurd (false_true e)
bytes_same (x ∷ xs) (y ∷ ys) e =
    let parts = both (nat_eq x y) (bytes_eq xs ys) e in
    ap (λ (a : ℕ). a ∷ xs) (eqb-true x y parts.0) ∙ ap (λ (as' : List ℕ). y ∷ as') (bytes_same xs ys parts.1)
  where
    both : (b c : Bool) → (b && c) ≡ true → (b ≡ true) × (c ≡ true)
    both true c e = (refl, e)
    both false c e = absurd (false_true e)

-- no name in the list is this text
abbrev pub AllOther : List ℕ → List (List ℕ) → Type 0
AllOther text [] = Unit {0}
AllOther text (name ∷ names) = (bytes_eq name text ≡ false) × AllOther text names

pub other_number : (text : List ℕ) (names : List (List ℕ)) → AllOther text names → number_in names text ≡ length names
other_number text [] all = refl
other_number text (name ∷ names) all =
    ap (λ (b : Bool). cond b 0 (number_in names text + 1)) all.0 ∙ (let e : number_in names text + 1 ≡ suc (length names) = omega (arith, other_number text names all.1) in e)

-- ---- the texts of the nodes

module _ (cells : List Cell) (netlist : IsNetlist cells) (small : AreSmall cells) where
  pub small_shape : (place : ℕ) (cell : Cell) → slice_get cells place ≡ Some cell → IsSmallShape (shape_for cell.name cell.group place)
  small_shape place cell at =
      let inside : place < 2 ^ 64 = omega (arith, slice_get_within cells place cell at, small.places) in
      by cell.name refl inside
    where
      by : (name : Option Name) → cell.name ≡ name → place < 2 ^ 64 → IsSmallShape (shape_for name cell.group place)
      by None e inside = nameless_small cell.group place (small.groups place cell at) inside
      by (Some name) e inside =
          let own = small.names place cell name at e in
          kind_small name.kind name.group name.number cell.group place own.0 own.1 (small.groups place cell at) inside

  text_apart : (j k : ℕ) (c d : Cell) → slice_get cells j ≡ Some c → slice_get cells k ≡ Some d → node_text c j ≡ node_text d k → j ≡ k
  text_apart j k c d at found same =
      let shapes = shape_same (shape_for c.name c.group j) (shape_for d.name d.group k) (small_shape j c at) (small_shape k d found)
      (sym (text_shape c.name c.group j) ∙ same ∙ text_shape d.name d.group k) in
      by (ap key_of shapes) (told c j (netlist.well_formed.each j c at).named) (told d k (netlist.well_formed.each k d found).named)
    where
      by : key_of (shape_for c.name c.group j) ≡ key_of (shape_for d.name d.group k) → Told c j → Told d k → j ≡ k
      by keys (inl a) (inl b) = place_same j k (sym a ∙ keys ∙ b)
      by keys (inl a) (inr (n, f, b)) = absurd (never j n.group n.number n.kind (sym a ∙ keys ∙ b))
      by keys (inr (m, e, a)) (inl b) = absurd (never k m.group m.number m.kind (sym b ∙ sym keys ∙ a))
      by keys (inr (m, e, a)) (inr (n, f, b)) =
          let parts = called_same m.group n.group m.number n.number m.kind n.kind (sym a ∙ keys ∙ b) in
          let one : n ≡ m = λ i. record { group = sym parts.0 i; kind = sym parts.1 i; number = sym parts.2 i } in
          netlist.well_formed.apart j k c d m at found e (f ∙ ap Some one)

  -- the rest of the cells, from a place on
  pub record IsTail (cs : List Cell) (p : ℕ) : Type 0 where
    pub each : (k : ℕ) (cell : Cell) → slice_get cs k ≡ Some cell → slice_get cells (p + k) ≡ Some cell

  pub tail_more : (x : Cell) (cs : List Cell) (p : ℕ) → IsTail (x ∷ cs) p → IsTail cs (p + 1)
  tail_more x cs p is = record { each = λ k cell at. ap (slice_get cells) (let e : p + 1 + k ≡ p + suc k = omega arith in e) ∙ is.each (suc k) cell at }

  pub tail_here : (x : Cell) (cs : List Cell) (p : ℕ) → IsTail (x ∷ cs) p → slice_get cells p ≡ Some x
  tail_here x cs p is = ap (slice_get cells) (let e : p ≡ p + 0 = omega arith in e) ∙ is.each 0 x refl

  pub tail_all : IsTail cells 0
  tail_all = record { each = λ k cell at. ap (slice_get cells) (let e : 0 + k ≡ k = omega arith in e) ∙ at }

  keep_other : (text : List ℕ) (b : Bool) (name : List ℕ) (rest : List (List ℕ)) → bytes_eq name text ≡ false → AllOther text rest → AllOther text (unless b name rest)
  keep_other text true name rest e all = all
  keep_other text false name rest e all = (e, all)

  -- no later node has the text of an earlier one
  later_other : (cs : List Cell) (p j : ℕ) (c : Cell) → IsTail cs p → j < p → slice_get cells j ≡ Some c → AllOther (node_text c j) (node_texts cs p)
  later_other [] p j c is lt at = tt
  later_other (x ∷ cs) p j c is lt at =
      let here = tail_here x cs p is in
      keep_other (node_text c j) (is_input x.item) (node_text x p) (node_texts cs (p + 1))
      (false_from_ne_true (bytes_eq (node_text x p) (node_text c j)) (λ e. (let same = text_apart p j x c here at (bytes_same (node_text x p) (node_text c j) e) in omega (arith, same))))
      (later_other cs (p + 1) j c (tail_more x cs p is) (omega arith) at)

  keep_distinct : (b : Bool) (name : List ℕ) (rest : List (List ℕ)) → AllOther name rest → AreDistinct rest → AreDistinct (unless b name rest)
  keep_distinct true name rest other all = all
  keep_distinct false name rest other all = (other_number name rest other, all)

  nodes_distinct : (cs : List Cell) (p : ℕ) → IsTail cs p → AreDistinct (node_texts cs p)
  nodes_distinct [] p is = tt
  nodes_distinct (x ∷ cs) p is =
      keep_distinct (is_input x.item) (node_text x p) (node_texts cs (p + 1)) (later_other cs (p + 1) p x (tail_more x cs p is) (omega arith) (tail_here x cs p is)) (nodes_distinct cs (p + 1) (tail_more x cs p is))

  -- ---- the names of the head are others

  abbrev NotHead : List ℕ → Type 0
  NotHead text =
      (bytes_eq text (codes "mr_filter") ≡ false) × (bytes_eq text (codes "clk") ≡ false) × (bytes_eq text (codes "rst") ≡ false) × (bytes_eq text (codes "ce") ≡ false)
      × (bytes_eq text (codes "in_data") ≡ false) × (bytes_eq text (codes "out_valid") ≡ false) × (bytes_eq text (codes "out_data") ≡ false)

  shape_not_head : (s : Shape) → NotHead (shape_text s)
  shape_not_head (Ctl number) = (refl, refl, refl, refl, refl, refl, refl)
  shape_not_head (CtlNode place) = (refl, refl, refl, refl, refl, refl, refl)
  shape_not_head (InGroup group letter number) = (refl, refl, refl, refl, refl, refl, refl)
  shape_not_head OutQ = (refl, refl, refl, refl, refl, refl, refl)

  node_not_head : (cell : Cell) (place : ℕ) → NotHead (node_text cell place)
  node_not_head cell place = subst NotHead (sym (text_shape cell.name cell.group place)) (shape_not_head (shape_for cell.name cell.group place))

  all_other : (text : List ℕ) → ((cell : Cell) (place : ℕ) → bytes_eq (node_text cell place) text ≡ false) → (cs : List Cell) (p : ℕ) → AllOther text (node_texts cs p)
  all_other text other [] p = tt
  all_other text other (x ∷ cs) p = keep_other text (is_input x.item) (node_text x p) (node_texts cs (p + 1)) (other x p) (all_other text other cs (p + 1))

  pub distinct : AreDistinct (written_module cells).names
  distinct = (
    other_number (codes "mr_filter") (codes "clk" ∷ codes "rst" ∷ codes "ce" ∷ codes "in_data" ∷ codes "out_valid" ∷ codes "out_data" ∷ node_texts cells 0) (refl, (refl, (refl, (refl, (refl, (refl, all_other (codes "mr_filter") (λ c p. (node_not_head c p).0) cells 0)))))),
    (
      other_number (codes "clk") (codes "rst" ∷ codes "ce" ∷ codes "in_data" ∷ codes "out_valid" ∷ codes "out_data" ∷ node_texts cells 0) (refl, (refl, (refl, (refl, (refl, all_other (codes "clk") (λ c p. (node_not_head c p).1) cells 0))))),
      (
        other_number (codes "rst") (codes "ce" ∷ codes "in_data" ∷ codes "out_valid" ∷ codes "out_data" ∷ node_texts cells 0) (refl, (refl, (refl, (refl, all_other (codes "rst") (λ c p. (node_not_head c p).2) cells 0)))),
        (
          other_number (codes "ce") (codes "in_data" ∷ codes "out_valid" ∷ codes "out_data" ∷ node_texts cells 0) (refl, (refl, (refl, all_other (codes "ce") (λ c p. (node_not_head c p).3) cells 0))),
          (
            other_number (codes "in_data") (codes "out_valid" ∷ codes "out_data" ∷ node_texts cells 0) (refl, (refl, all_other (codes "in_data") (λ c p. (node_not_head c p).4) cells 0)),
            (
              other_number (codes "out_valid") (codes "out_data" ∷ node_texts cells 0) (refl, all_other (codes "out_valid") (λ c p. (node_not_head c p).5) cells 0),
              (other_number (codes "out_data") (node_texts cells 0) (all_other (codes "out_data") (λ c p. (node_not_head c p).6) cells 0), nodes_distinct cells 0 tail_all),
            ),
          ),
        ),
      ),
    ),
  )

  -- ---- each is a name of the grammar

  keep_name : (b : Bool) (name : List ℕ) (rest : List (List ℕ)) → IsName name → AllFormed IsName rest → AllFormed IsName (unless b name rest)
  keep_name true name rest is all = all
  keep_name false name rest is all = (is, all)

  nodes_named : (cs : List Cell) (p : ℕ) → IsTail cs p → AllFormed IsName (node_texts cs p)
  nodes_named [] p is = tt
  nodes_named (x ∷ cs) p is =
      keep_name (is_input x.item) (node_text x p) (node_texts cs (p + 1))
      (subst IsName (sym (text_shape x.name x.group p)) (shape_name (shape_for x.name x.group p) (small_shape p x (tail_here x cs p is)))) (nodes_named cs (p + 1) (tail_more x cs p is))

  pub all_named : AllFormed IsName (written_module cells).names
  unfolding words
  all_named = ((refl, refl, refl), ((refl, refl, refl), ((refl, refl, refl), ((refl, refl, refl), ((refl, refl, refl), ((refl, refl, refl), ((refl, refl, refl), nodes_named cells 0 tail_all)))))))
