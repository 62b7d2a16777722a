-- A module that a text reads as and that passes the checks has a writing.
use Rattle.std.proofs.Common.{◌≡◌, ℕ, ◌<◌, true, false, ◌&&◌, List, [], ◌∷◌, length, refl, sym, ap, ◌∙◌, subst, arith}
use Rattle.std.specs.Prelude.{bytes_eq, codes}
use Rattle.std.proofs.lemmas.Slice.Eq.{bytes_eq-Decides}
use Rattle.verilog_tree.specs.declared.tree.Signal.{Signal}
use Rattle.verilog_tree.specs.Tree.{Design}
use Rattle.verilog_tree.specs.Names.{text_of}
use Rattle.verilog_tree.specs.Renaming.{number_in, AreDistinct}
use Rattle.verilog_tree.specs.Checks.{Face, HasClock, PassesAs, is_port, has_port}
use Rattle.verilog_text.specs.Lexer.{Placed}
use Rattle.verilog_text.specs.Names.{names_behind}
use Rattle.verilog_text.specs.Grammar.{limits}
use Rattle.verilog_text.specs.Text.{Text, Direction, Inward, Outward, direction_kind, clock_text, signals_of, tokens_of}
use Rattle.verilog_text.specs.Reading.{Reads, design_of, with_places, declared_places}
use Rattle.verilog_text.specs.Shortest.{is_port as is_port_kind, ports_in, IsFormedSignal, AllFormed, IsWritable}
use Rattle.verilog_text.proofs.Numbering.{number_of_name}
use Rattle.module_laws.proofs.InputPorts.{some_among, both_true, read_name, port_there}
use Rattle.reading_laws.proofs.Pieces.{good_pieces}
use Rattle.reading_laws.proofs.Known.{AreNames, names_found, known_tokens}
use Rattle.reading_laws.proofs.Formed.{HasFormedText, formed_text}

-- ---- places

placed_formed : (count : ℕ) (places : List ℕ) (signals : List Signal) → AllFormed (IsFormedSignal count) signals → AllFormed (IsFormedSignal count) (with_places places signals)
placed_formed count [] signals all = all
placed_formed count (p ∷ places) [] all = tt
placed_formed count (p ∷ places) (s ∷ signals) all = (all.0, placed_formed count places signals all.1)

outer : (d : Direction) → is_port_kind (direction_kind d) ≡ true
outer Inward = refl
outer Outward = refl

-- the first declaration of a text is a port
some_port : (places : List ℕ) (s : Signal) (signals : List Signal) → is_port_kind s.kind ≡ true → 0 < length (ports_in (with_places places (s ∷ signals)))
some_port [] s signals is = rw is (omega arith)
some_port (p ∷ places) s signals is = rw is (omega arith)

-- ---- the clock

clock_there : (face : Face) (d : Design) → HasClock face → PassesAs face d → AreDistinct d.names → number_in d.names clock_text < length d.names
clock_there face d clock passes distinct =
    let there = port_there face d passes clock.place (codes "clk") clock.there in
    let found = some_among (λ (s : Signal). is_port s.kind && bytes_eq (text_of d s.name) (codes "clk")) d.signals there in
    let s = found.0 in
    let parts = both_true (is_port s.kind) (bytes_eq (text_of d s.name) (codes "clk")) found.2 in
    let read = read_name d.names s.name 99 (codes "lk") ((bytes_eq-Decides (text_of d s.name) (codes "clk")).0 parts.1) in
    let number : number_in d.names clock_text ≡ s.name = ap (number_in d.names) (sym read.1) ∙ number_of_name d.names s.name distinct read.0 in
    omega (arith, number, read.0)

-- ---- the whole

module _ (face : Face) (has_clock : HasClock face) (pieces : List Placed) (text : Text) where
  writable_text : AreNames (names_behind [] pieces) → HasFormedText (length (names_behind [] pieces)) limits (number_in (names_behind [] pieces) clock_text) text
      → PassesAs face (design_of (names_behind [] pieces) (declared_places false pieces) text) → IsWritable limits (design_of (names_behind [] pieces) (declared_places false pieces) text)
  writable_text are formed passes = record {
    distinct = are.distinct;
    names = are.named;
    name = formed.name;
    signals = placed_formed (length (names_behind [] pieces)) (declared_places false pieces) (signals_of text) formed.signals;
    assigns = formed.items.assigns;
    blocks = formed.items.blocks;
    port = some_port (declared_places false pieces) _ _ (outer text.port.direction);
    clock = clock_there face (design_of (names_behind [] pieces) (declared_places false pieces) text) has_clock passes are.distinct;
  }

pub writable : {face : Face} → HasClock face → (bytes : List ℕ) (d : Design) → Reads bytes d → PassesAs face d → IsWritable limits d
writable {face} has_clock bytes d reads passes =
    let good = good_pieces 0 bytes reads.pieces reads.scans in
    let are = names_found reads.pieces [] good (record { distinct = tt; named = tt }) in
    let formed = formed_text (length (names_behind [] reads.pieces)) limits (number_in (names_behind [] reads.pieces) clock_text) reads.text reads.in_limits (known_tokens reads.pieces (tokens_of (number_in (names_behind [] reads.pieces) clock_text) reads.text) good reads.tokens_are) in
    subst (IsWritable limits) (sym reads.design_is) (writable_text face has_clock reads.pieces reads.text are formed (subst (PassesAs face) reads.design_is passes))
