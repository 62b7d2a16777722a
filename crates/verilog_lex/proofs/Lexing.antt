-- The pieces of a text, one by one.
use Rattle.std.proofs.Common.{◌≡◌, ℕ, zero, suc, ◌+◌, ◌<◌, ◌≤◌, List, [], ◌∷◌, ◌++◌, map, length, drop, refl, sym, ap, ◌∙◌, subst, arith, append_assoc, length-drop}
use Rattle.std.specs.Str.{bytes_eq}
use Rattle.std.proofs.lemmas.Bool.{cond-true, cond-false, cond_both}
use Rattle.std.proofs.lemmas.List.{append-nil, map-append}
use Rattle.std.proofs.lemmas.Slice.Eq.{bytes_eq-Decides}
use Rattle.verilog_tree.specs.Renaming.{number_in}
use Rattle.verilog_text.specs.declared.token.Token.TheVariants as token
use Rattle.verilog_text.specs.Lexer.{Piece, Gap, NameText, Fixed, OutsidePiece, UnreadablePiece, Placed, Scans, ended, gap, piece, unreadable, piece_of, IsLongest}
use Rattle.verilog_text.specs.Names.{Lexeme, Inside, with_name, with_piece, names_behind, lexeme_in}
use Rattle.verilog_text.proofs.Numbering.{number_in-kept}
use Rattle.verilog_lex.specs.declared.lexeme.PlacedLexeme.{PlacedLexeme}
use Rattle.verilog_lex.specs.Best.{IsNever}
use Rattle.verilog_lex.specs.Lexed.{Standing, standing_view, standing_in, IsFoundName, AllFound, HasRead, IsReadTo, IsLexed}

-- ---- names and what stands at the places

names_behind-append : (names : List (List ℕ)) (pieces : List Placed) (x : Placed) → names_behind names (pieces ++ x ∷ []) ≡ with_piece (names_behind names pieces) x.piece
names_behind-append names [] x = refl
names_behind-append names (y ∷ pieces) x = names_behind-append (with_piece names y.piece) pieces x

found_itself : (names : List (List ℕ)) (text : List ℕ) → number_in (with_name names text) text < length (with_name names text)
found_itself [] text = let e : number_in (text ∷ []) text ≡ 0 = cond-true _ _ _ ((bytes_eq-Decides text text).1 refl) in omega arith
found_itself (name ∷ names) text =
    cond_both (bytes_eq name text) (name ∷ names) (name ∷ with_name names text) (λ ns. number_in ns text < length ns)
    (λ e. let n : number_in (name ∷ names) text ≡ 0 = cond-true _ _ _ e in omega arith)
    (λ e. let n : number_in (name ∷ with_name names text) text ≡ number_in (with_name names text) text + 1 = cond-false _ _ _ e in let h = found_itself names text in omega arith)

abbrev only : Piece → Placed
only p = record { place = 0; piece = p }

still_found : (names : List (List ℕ)) (p q : Piece) → IsFoundName names q → IsFoundName (with_piece names p) q
still_found names p Gap h = tt
still_found names p (NameText text) h = let k = number_in-kept (only p ∷ []) names text h in omega (arith, k.0, k.1, h)
still_found names p (Fixed t) h = tt
still_found names p OutsidePiece h = tt
still_found names p UnreadablePiece h = tt

same_lexeme : (names : List (List ℕ)) (p q : Piece) → IsFoundName names q → lexeme_in (with_piece names p) q ≡ lexeme_in names q
same_lexeme names p Gap h = refl
same_lexeme names p (NameText text) h = ap (λ n. Inside (token.Name n)) (number_in-kept (only p ∷ []) names text h).0
same_lexeme names p (Fixed t) h = refl
same_lexeme names p OutsidePiece h = refl
same_lexeme names p UnreadablePiece h = refl

all_still : (names : List (List ℕ)) (p : Piece) (pieces : List Placed) → AllFound names pieces → AllFound (with_piece names p) pieces
all_still names p [] h = tt
all_still names p (x ∷ pieces) h = (still_found names p x.piece h.0, all_still names p pieces h.1)

same_standing : (names : List (List ℕ)) (p : Piece) (pieces : List Placed) → AllFound names pieces → map (standing_in (with_piece names p)) pieces ≡ map (standing_in names) pieces
same_standing names p [] h = refl
same_standing names p (x ∷ pieces) h =
    let stand : Lexeme → Standing = λ l. record { place = x.place; lexeme = l } in
    ap (λ l. stand l ∷ map (standing_in (with_piece names p)) pieces) (same_lexeme names p x.piece h.0)
    ∙ ap (λ ys. stand (lexeme_in names x.piece) ∷ ys) (same_standing names p pieces h.1)

new_found : (names : List (List ℕ)) (p : Piece) → IsFoundName (with_piece names p) p
new_found names Gap = tt
new_found names (NameText text) = found_itself names text
new_found names (Fixed t) = tt
new_found names OutsidePiece = tt
new_found names UnreadablePiece = tt

found-append : (names : List (List ℕ)) (pieces : List Placed) (x : Placed) → AllFound names pieces → IsFoundName names x.piece → AllFound names (pieces ++ x ∷ [])
found-append names [] x h g = (g, tt)
found-append names (y ∷ pieces) x h g = (h.0, found-append names pieces x h.1 g)

-- one piece more
read_more : (names : List (List ℕ)) (old new : List PlacedLexeme) (pieces : List Placed) (at : ℕ) (p : Piece) (lex : Lexeme) → HasRead names old pieces → map standing_view new ≡ map standing_view old ++ record { place = at; lexeme = lex } ∷ [] → lex ≡ lexeme_in (with_piece names p) p → HasRead (with_piece names p) new (pieces ++ record { place = at; piece = p } ∷ [])
read_more names old new pieces at p lex h items is =
    let x : Placed = record { place = at; piece = p } in
    let stand : Lexeme → List Standing = λ l. record { place = at; lexeme = l } ∷ [] in
    record {
      names_are = ap (λ ns. with_piece ns p) h.names_are ∙ sym (names_behind-append [] pieces x);
      items_are =
          items
          ∙ ap (λ ys. ys ++ stand lex) (h.items_are ∙ sym (same_standing names p pieces h.found))
          ∙ ap (λ l. map (standing_in (with_piece names p)) pieces ++ stand l) is
          ∙ sym (map-append (standing_in (with_piece names p)) pieces (x ∷ []));
      found = found-append (with_piece names p) pieces x (all_still names p pieces h.found) (new_found names p);
    }

pub word_more : (names names' : List (List ℕ)) (old new : List PlacedLexeme) (pieces : List Placed) (at : ℕ) (p : Piece) (lex : Lexeme) → names' ≡ with_piece names p → lex ≡ lexeme_in names' p → map standing_view new ≡ map standing_view old ++ record { place = at; lexeme = lex } ∷ [] → HasRead names old pieces → HasRead names' new (pieces ++ record { place = at; piece = p } ∷ [])
word_more names names' old new pieces at p lex e is items h =
    let x : Placed = record { place = at; piece = p } in
    subst (λ ns. HasRead ns new (pieces ++ x ∷ [])) (sym e) (read_more names old new pieces at p lex h items (is ∙ ap (λ ns. lexeme_in ns p) e))

-- ---- places

no_more : (place : ℕ) (rest : List Placed) → Scans place [] rest → rest ≡ []
no_more place rest ended = refl
no_more place rest (gap n a r) = absurd (omega (arith, a.some, a.within))
no_more place rest (piece n p no_gap a r) = absurd (omega (arith, a.some, a.within))

drop_none : (n : ℕ) → ◌≡◌ {A = List ℕ} (drop n []) []
drop_none zero = refl
drop_none (suc n) = refl

behind_drop : (bytes : List ℕ) (at n : ℕ) → drop n (drop at bytes) ≡ drop (at + n) bytes
behind_drop bytes zero n = let e : n ≡ zero + n = omega arith in ap (λ k. drop k bytes) e
behind_drop [] (suc at) n = drop_none n ∙ sym (drop_none (suc at + n))
behind_drop (b ∷ bytes) (suc at) n = let e : suc (at + n) ≡ suc at + n = omega arith in behind_drop bytes at n ∙ ap (λ k. drop k (b ∷ bytes)) e

none_left : (bytes : List ℕ) (at : ℕ) → length bytes ≤ at → drop at bytes ≡ []
none_left [] zero low = refl
none_left [] (suc at) low = refl
none_left (b ∷ bytes) zero low = absurd (omega arith)
none_left (b ∷ bytes) (suc at) low = none_left bytes at (omega arith)

pub begun : (bytes : List ℕ) (names : List (List ℕ)) (items : List PlacedLexeme) → names ≡ [] → items ≡ [] → IsReadTo bytes 0 names items
begun bytes names items e f = record {
  pieces = [];
  has_read = record { names_are = e; items_are = ap (map standing_view) f; found = tt };
  go_on = λ rest scans. scans;
}

pub past_gap : (bytes : List ℕ) (at n : ℕ) (names : List (List ℕ)) (items : List PlacedLexeme) → IsReadTo bytes at names items → IsLongest (drop at bytes) n Gap → IsReadTo bytes (at + n) names items
past_gap bytes at n names items h longest = record {
  pieces = h.pieces;
  has_read = h.has_read;
  go_on = λ rest scans. h.go_on rest (gap n longest (subst (λ bs. Scans (at + n) bs rest) (sym (behind_drop bytes at n)) scans));
}

pub past_piece : (bytes : List ℕ) (at n : ℕ) (p : Piece) (names names' : List (List ℕ)) (old new : List PlacedLexeme) → IsReadTo bytes at names old → (p ≡ Gap → ⊥) → IsLongest (drop at bytes) n p → ((pieces : List Placed) → HasRead names old pieces → HasRead names' new (pieces ++ record { place = at; piece = p } ∷ [])) → IsReadTo bytes (at + n) names' new
past_piece bytes at n p names names' old new h no_gap longest more =
    let x : Placed = record { place = at; piece = p } in
    record {
      pieces = h.pieces ++ x ∷ [];
      has_read = more h.pieces h.has_read;
      go_on = λ rest scans. subst (Scans 0 bytes) (sym (append_assoc h.pieces (x ∷ []) rest)) (h.go_on (x ∷ rest) (piece n p no_gap longest (subst (λ bs. Scans (at + n) bs rest) (sym (behind_drop bytes at n)) scans)));
    }

stuck : (place : ℕ) (bytes : List ℕ) → 1 ≤ length bytes → IsNever piece_of bytes → Scans place bytes (record { place = place; piece = UnreadablePiece } ∷ [])
stuck place [] some never = absurd (omega arith)
stuck place (b ∷ bytes) some never = unreadable never.none

pub past_all : (bytes : List ℕ) (at : ℕ) (names : List (List ℕ)) (old new : List PlacedLexeme) → at < length bytes → IsReadTo bytes at names old → IsNever piece_of (drop at bytes) → ((pieces : List Placed) → HasRead names old pieces → HasRead names new (pieces ++ record { place = at; piece = UnreadablePiece } ∷ [])) → IsReadTo bytes (length bytes) names new
past_all bytes at names old new within h never more =
    let x : Placed = record { place = at; piece = UnreadablePiece } in
    let whole : Scans 0 bytes (h.pieces ++ x ∷ []) = h.go_on (x ∷ []) (stuck at (drop at bytes) (omega (arith, length-drop at bytes)) never) in
    record {
      pieces = h.pieces ++ x ∷ [];
      has_read = more h.pieces h.has_read;
      go_on = λ rest scans.
          let none : rest ≡ [] = no_more (length bytes) rest (subst (λ bs. Scans (length bytes) bs rest) (none_left bytes (length bytes) (omega arith)) scans) in
          subst (λ r. Scans 0 bytes ((h.pieces ++ x ∷ []) ++ r)) (sym none) (subst (Scans 0 bytes) (sym (append-nil (h.pieces ++ x ∷ []))) whole);
    }

pub read_all : (bytes : List ℕ) (at : ℕ) (names : List (List ℕ)) (items : List PlacedLexeme) → length bytes ≤ at → IsReadTo bytes at names items → IsLexed bytes names items
read_all bytes at names items low h = record {
  pieces = h.pieces;
  scans = subst (Scans 0 bytes) (append-nil h.pieces) (h.go_on [] (subst (λ bs. Scans at bs []) (sym (none_left bytes at low)) ended));
  names_are = h.has_read.names_are;
  items_are = h.has_read.items_are;
}
