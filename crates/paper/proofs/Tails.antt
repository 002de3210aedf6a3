-- The bracket of a line: what is made of its figures stands aside, and its first byte tells its word.
use Rattle.std.proofs.Common.{◌≡◌, ℕ, ◌+◌, ◌<◌, Bool, true, false, cond, eqb, ltb, List, length, get_or, take, drop, Some, None, Ok, Err, Option, Result, sym, refl, ap, ◌∙◌, subst, arith, IsErrAnd}
use Rattle.std.specs.Option.{option_map}
use Rattle.std.specs.Str.Parse.{digits_value}
use Rattle.std.proofs.lemmas.Result.{err_from_is_err_and}
use Rattle.house.specs.declared.method.Method.{Method}
use Rattle.house.specs.declared.method.Method.TheVariants.{Remainder, Stated}
use Rattle.house.specs.declared.room.Kind.{Kind}
use Rattle.house.specs.declared.room.Kind.TheVariants.{Metered, Plain, Detached}
use Rattle.forms.proofs.Choosing.{either_first, either_second, misses}
use Rattle.forms.proofs.Walks.{exit_is}
use Rattle.forms.specs.declared.misread.Misread.{Misread}
use Rattle.forms.specs.declared.token.Token.{Token}
use Rattle.forms.specs.Form.{Figure, Form, best, follow, done, word, number, either, common, numeral_at}
use Rattle.forms.specs.Place.{Mark, Spot, mark, seen, on_line, line_says}
use Rattle.paper_text.specs.Text.{closing, remainder_word, stated_word, metered_word, plain_word, detached_word, blank}
use Rattle.paper.specs.Items.{mapped}
use Rattle.paper.specs.Lines.{figure_form, method_form, kind_form, detached_form}

-- what the exit of a `?` returns
pub seen_exit : (r : Result Token Misread) (e : Misread) → IsErrAnd r (λ y. y ≡ e) → seen r ≡ Err e
seen_exit r e h = ap seen (exit_is r e (err_from_is_err_and r h))

pub mapped_exit : {X Y E : Type 0} (g : X → Y) (r : Result X E) (e : E) → IsErrAnd r (λ y. y ≡ e) → mapped g r ≡ Err e
mapped_exit g r e h = ap (mapped g) (exit_is r e (err_from_is_err_and r h))

mapped_cond : {X Y : Type 0} (g : X → Y) (t : Bool) (r s : Result X ℕ) → mapped g (cond t r s) ≡ cond t (mapped g r) (mapped g s)
mapped_cond g true r s = refl
mapped_cond g false r s = refl

mapped_end : {X Y : Type 0} (g : X → Y) (w : List ℕ) (x : X) (column : ℕ) (bs : List ℕ) → mapped g (follow (word w (done x)) column bs) ≡ follow (word w (done (g x))) column bs
unfolding follow
mapped_end g w x column bs =
    mapped_cond g (ltb (common w bs) (length w)) _ _ ∙ ap (λ r. cond (ltb (common w bs) (length w)) (Err (column + common w bs)) r) (mapped_cond g (eqb (length (drop (length w) bs)) 0) _ _)

mapped_number : {X Y : Type 0} (g : X → Y) (f : Figure → Form X) (h : Figure → Form Y) → ((x : Figure) (column : ℕ) (bs : List ℕ) → mapped g (follow (f x) column bs) ≡ follow (h x) column bs) → (column : ℕ) (bs : List ℕ) → mapped g (follow (number f) column bs) ≡ follow (number h) column bs
unfolding follow
mapped_number g f h same column bs =
    mapped_cond g (eqb (numeral_at bs) 0) _ _ ∙ ap (λ r. cond (eqb (numeral_at bs) 0) (Err column) r) (same (record { value = digits_value 10 (take (numeral_at bs) bs); column = column }) (column + numeral_at bs) (drop (numeral_at bs) bs))

mapped_word : {X Y : Type 0} (g : X → Y) (w : List ℕ) (f : Form X) (h : Form Y) → ((column : ℕ) (bs : List ℕ) → mapped g (follow f column bs) ≡ follow h column bs) → (column : ℕ) (bs : List ℕ) → mapped g (follow (word w f) column bs) ≡ follow (word w h) column bs
unfolding follow
mapped_word g w f h same column bs =
    mapped_cond g (ltb (common w bs) (length w)) _ _ ∙ ap (λ r. cond (ltb (common w bs) (length w)) (Err (column + common w bs)) r) (same (column + length w) (drop (length w) bs))

mapped_best : {X Y : Type 0} (g : X → Y) (r s : Result X ℕ) → mapped g (best r s) ≡ best (mapped g r) (mapped g s)
mapped_best g (Ok x) s = refl
mapped_best g (Err i) (Ok y) = refl
mapped_best g (Err i) (Err j) = refl

mapped_either : {X Y : Type 0} (g : X → Y) (f₁ f₂ : Form X) (h₁ h₂ : Form Y) → ((column : ℕ) (bs : List ℕ) → mapped g (follow f₁ column bs) ≡ follow h₁ column bs) → ((column : ℕ) (bs : List ℕ) → mapped g (follow f₂ column bs) ≡ follow h₂ column bs) → (column : ℕ) (bs : List ℕ) → mapped g (follow (either f₁ f₂) column bs) ≡ follow (either h₁ h₂) column bs
unfolding follow
mapped_either g f₁ f₂ h₁ h₂ p q column bs = mapped_best g (follow f₁ column bs) (follow f₂ column bs) ∙ (λ i. best (p column bs i) (q column bs i))

figure_through : {X Y : Type 0} (g : X → Y) (says : Figure → X) (w : List ℕ) (column : ℕ) (bs : List ℕ) → mapped g (follow (figure_form w says) column bs) ≡ follow (figure_form w (λ x. g (says x))) column bs
figure_through g says w = mapped_word g w _ _ (mapped_number g _ _ (λ x. mapped_end g closing (says x)))

detached_through : {X Y : Type 0} (g : X → Y) (says : Figure → Figure → X) (column : ℕ) (bs : List ℕ) → mapped g (follow (detached_form says) column bs) ≡ follow (detached_form (λ s t. g (says s t))) column bs
detached_through g says = mapped_word g detached_word _ _ (mapped_number g _ _ (λ s. figure_through g (says s) blank))

-- the same on a line
on_mapped : {X Y : Type 0} (g : X → Y) (line : ℕ) (r : Result X ℕ) → mapped g (on_line line r) ≡ on_line line (mapped g r)
on_mapped g line (Ok x) = refl
on_mapped g line (Err column) = refl

module _ {X Y : Type 0} (g : X → Y) (s : Spot) where
  pub figure_says : (says : Figure → X) (w : List ℕ) → mapped g (line_says (figure_form w says) s) ≡ line_says (figure_form w (λ x. g (says x))) s
  figure_says says w = on_mapped g s.line _ ∙ ap (on_line s.line) (figure_through g says w s.column s.rest)

  pub method_says : (says : Method → Figure → X) → mapped g (line_says (method_form says) s) ≡ line_says (method_form (λ m x. g (says m x))) s
  method_says says =
      on_mapped g s.line _ ∙ ap (on_line s.line) (mapped_either g _ _ _ _ (figure_through g _ remainder_word) (figure_through g _ stated_word) s.column s.rest)

  pub detached_says : (says : Figure → Figure → X) → mapped g (line_says (detached_form says) s) ≡ line_says (detached_form (λ a t. g (says a t))) s
  detached_says says = on_mapped g s.line _ ∙ ap (on_line s.line) (detached_through g says s.column s.rest)

  pub kind_says : (says : Kind → Figure → Option Figure → X) → mapped g (line_says (kind_form says) s) ≡ line_says (kind_form (λ kind a pipe. g (says kind a pipe))) s
  kind_says says =
      on_mapped g s.line _
      ∙ ap (on_line s.line) (mapped_either g _ _ _ _ (figure_through g _ metered_word) (mapped_either g _ _ _ _ (figure_through g _ plain_word) (detached_through g _)) s.column s.rest)

abbrev pub Leads : Spot → ℕ → Type 0
Leads s b = (0 < length s.rest) × (get_or s.rest 0 0 ≡ b)

-- a text that leads with one byte does not lead with another
pub leads_else : (s : Spot) (b c : ℕ) → Leads s b → (b ≡ c → ⊥) → 0 < length s.rest → get_or s.rest 0 0 ≡ c → ⊥
leads_else s b c h off l e = off (sym h.1 ∙ e)

-- a method by the first byte of its word
abbrev pub methods : ℕ → Form (Method × Mark)
methods line = method_form (λ m x. (m, mark line x))

module _ (s : Spot) where
  pub remainder_says : Leads s 114 → line_says (methods s.line) s ≡ mapped {Y = Method × Mark} (λ a. (Remainder a.figure.value, a)) (line_says (figure_form remainder_word (mark s.line)) s)
  remainder_says leads =
      ap (on_line s.line) (either_first _ _ s.column s.rest (misses 115 _ _ s.column s.rest (leads_else s 114 115 leads (λ e. omega arith))))
      ∙ sym (figure_says _ s (mark s.line) remainder_word)

  pub stated_says : Leads s 115 → line_says (methods s.line) s ≡ mapped {Y = Method × Mark} (λ k. (Stated k.figure.value, k)) (line_says (figure_form stated_word (mark s.line)) s)
  stated_says leads =
      ap (on_line s.line) (either_second _ _ s.column s.rest (misses 114 _ _ s.column s.rest (leads_else s 115 114 leads (λ e. omega arith))))
      ∙ sym (figure_says _ s (mark s.line) stated_word)

  pub no_method : (Leads s 114 → ⊥) → (Leads s 115 → ⊥) → line_says (methods s.line) s ≡ Err (record { line = s.line; column = s.column })
  no_method r-off s-off =
      ap (on_line s.line) (either_second _ _ s.column s.rest (misses 114 _ _ s.column s.rest (λ l e. r-off (l, e))) ∙ misses 115 _ _ s.column s.rest (λ l e. s-off (l, e)))

-- a kind by the first byte of its word
abbrev pub kinds : ℕ → Form (Kind × Mark × Option Mark)
kinds line = kind_form (λ kind a pipe. (kind, mark line a, option_map (mark line) pipe))

module _ (s : Spot) where
  abbrev of_detached : Form (Kind × Mark × Option Mark)
  of_detached = detached_form (λ a t. (Detached t.value, mark s.line a, Some (mark s.line t)))

  abbrev not_of_metered : Form (Kind × Mark × Option Mark)
  not_of_metered = either (figure_form plain_word (λ a. (Plain, mark s.line a, None))) of_detached

  not_metered : (Leads s 109 → ⊥) → line_says (kinds s.line) s ≡ line_says not_of_metered s
  not_metered off = ap (on_line s.line) (either_second _ not_of_metered s.column s.rest (misses 109 _ _ s.column s.rest (λ l e. off (l, e))))

  not_plain : (Leads s 112 → ⊥) → follow not_of_metered s.column s.rest ≡ follow of_detached s.column s.rest
  not_plain off = either_second _ _ s.column s.rest (misses 112 _ _ s.column s.rest (λ l e. off (l, e)))

  not_detached : (Leads s 100 → ⊥) → follow of_detached s.column s.rest ≡ Err s.column
  not_detached off = misses 100 _ _ s.column s.rest (λ l e. off (l, e))

  pub no_kind : (Leads s 109 → ⊥) → (Leads s 112 → ⊥) → (Leads s 100 → ⊥) → line_says (kinds s.line) s ≡ Err (record { line = s.line; column = s.column })
  no_kind m p d = not_metered m ∙ ap (on_line s.line) (not_plain p ∙ not_detached d)

  other : (b c : ℕ) → Leads s b → (b ≡ c → ⊥) → Leads s c → ⊥
  other b c leads off h = off (sym leads.1 ∙ h.1)

  pub metered_says : Leads s 109 → line_says (kinds s.line) s ≡ mapped {Y = Kind × Mark × Option Mark} (λ a. (Metered, a, None)) (line_says (figure_form metered_word (mark s.line)) s)
  metered_says leads =
      ap (on_line s.line) (either_first _ not_of_metered s.column s.rest (not_plain (other 109 112 leads (λ e. omega arith)) ∙ not_detached (other 109 100 leads (λ e. omega arith))))
      ∙ sym (figure_says _ s (mark s.line) metered_word)

  pub plain_says : Leads s 112 → line_says (kinds s.line) s ≡ mapped {Y = Kind × Mark × Option Mark} (λ a. (Plain, a, None)) (line_says (figure_form plain_word (mark s.line)) s)
  plain_says leads =
      not_metered (other 112 109 leads (λ e. omega arith))
      ∙ ap (on_line s.line) (either_first _ of_detached s.column s.rest (not_detached (other 112 100 leads (λ e. omega arith))))
      ∙ sym (figure_says _ s (mark s.line) plain_word)

  pub detached_kind : Leads s 100 → line_says (kinds s.line) s ≡ mapped {X = Mark × Mark} {Y = Kind × Mark × Option Mark} (λ p. (Detached p.1.figure.value, p.0, Some p.1)) (line_says (detached_form (λ a t. (mark s.line a, mark s.line t))) s)
  detached_kind leads =
      not_metered (other 100 109 leads (λ e. omega arith))
      ∙ ap (on_line s.line) (not_plain (other 100 112 leads (λ e. omega arith)))
      ∙ sym (detached_says _ s (λ a t. (mark s.line a, mark s.line t)))

-- the first byte, as it was read from the rest
pub leads_by : (s : Spot) (rest : List ℕ) (b : ℕ) → rest ≡ s.rest → 0 < length rest → get_or rest 0 0 ≡ b → Leads s b
leads_by s rest b e l h = (subst (λ (v : List ℕ). 0 < length v) e l, sym (ap (λ (v : List ℕ). get_or v 0 0) e) ∙ h)

pub leads_not : (s : Spot) (rest : List ℕ) (b : ℕ) → rest ≡ s.rest → (0 < length rest → get_or rest 0 0 ≡ b → ⊥) → Leads s b → ⊥
leads_not s rest b e off h = off (subst (λ (v : List ℕ). 0 < length v) (sym e) h.0) (ap (λ (v : List ℕ). get_or v 0 0) e ∙ h.1)
