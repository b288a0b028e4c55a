-- What contracts see of flat code: plain trees, without addresses.
use Rattle.std.specs.Prelude.{◌≡◌, ℕ, ◌+◌, suc, List, [], ◌∷◌, Option, refl}
use Rattle.std.specs.Coded.{Coded, coded_ℕ, coded_list, coded_option}
use base.Stored.{Gv, gnil, gnum, gcons}
use Rattle.hx_base.specs.declared.Class.{Class}
use Rattle.flat_code.specs.declared.op.Op.{Op}
use Rattle.flat_code.specs.declared.op.LoadKind.{LoadKind}
use Rattle.flat_code.specs.declared.value.Value.{Value}

-- ---- trees

-- a statement, and the statements of a Seq
mutual
  pub data Code : Type 0 where
    Seq : Codes → Code
    Set : (temp : ℕ) → Class → Op → (a b : Value) → Code
    Load : (temp : ℕ) → LoadKind → (at : Value) → Code
    Store : (width : ℕ) → (value at : Value) → Code
    Move : (to from : Value) → (bytes : ℕ) → Code
    If : (cond : Value) → (does other : Code) → Code
    Loop : Code → Code
    Leave : ℕ → Code
    Call : (temp : Option ℕ) → (name : List ℕ) → (args : List Value) → Code
    Ret : Option Value → Code

  pub data Codes : Type 0 where
    none : Codes
    more : Code → Codes → Codes

-- a list of statements as those of a Seq
abbrev pub codes_of : List Code → Codes
codes_of [] = none
codes_of (c ∷ cs) = more c (codes_of cs)

-- ---- sizes, by which recursion over a tree ends

abbrev mutual
  pub height : Code → ℕ
  height (Seq cs) = suc (heights cs)
  height (Set temp class op a b) = 0
  height (Load temp how at) = 0
  height (Store width value at) = 0
  height (Move to from bytes) = 0
  height (If cond does other) = suc (height does + height other)
  height (Loop c) = suc (height c)
  height (Leave k) = 0
  height (Call temp name args) = 0
  height (Ret value) = 0

  pub heights : Codes → ℕ
  heights none = 0
  heights (more c cs) = suc (suc (height c)) + heights cs

-- ---- trees as numbers, by which two trees are told apart

module _ (class : Coded Class) (op : Coded Op) (how : Coded LoadKind) (value : Coded Value) where
  abbrev pub name_code : Coded (List ℕ)
  name_code = coded_list coded_ℕ

  abbrev pub values_code : Coded (List Value)
  values_code = coded_list value

  abbrev pub temp_code : Coded (Option ℕ)
  temp_code = coded_option coded_ℕ

  abbrev pub result_code : Coded (Option Value)
  result_code = coded_option value

  abbrev mutual
    pub code : Code → Gv
    code (Seq cs) = gcons (gnum 0) (codes cs)
    code (Set t c o a b) = gcons (gnum 1) (gcons (gnum t) (gcons (class.code c) (gcons (op.code o) (gcons (value.code a) (value.code b)))))
    code (Load t h a) = gcons (gnum 2) (gcons (gnum t) (gcons (how.code h) (value.code a)))
    code (Store w v a) = gcons (gnum 3) (gcons (gnum w) (gcons (value.code v) (value.code a)))
    code (Move a b n) = gcons (gnum 4) (gcons (value.code a) (gcons (value.code b) (gnum n)))
    code (If v a b) = gcons (gnum 5) (gcons (value.code v) (gcons (code a) (code b)))
    code (Loop c) = gcons (gnum 6) (code c)
    code (Leave k) = gcons (gnum 7) (gnum k)
    code (Call t f vs) = gcons (gnum 8) (gcons (temp_code.code t) (gcons (name_code.code f) (values_code.code vs)))
    code (Ret v) = gcons (gnum 9) (result_code.code v)

    pub codes : Codes → Gv
    codes none = gnil
    codes (more c cs) = gcons (code c) (codes cs)

  mutual
    pub code_inj : (x y : Code) → code x ≡ code y → x ≡ y
    code_inj (Seq a) (Seq a') e = let h : codes a ≡ codes a' = cc in let x = codes_inj a a' h in cc
    code_inj (Set t c o a b) (Set t' c' o' a' b') e =
        let h1 : class.code c ≡ class.code c' = cc in
        let h2 : op.code o ≡ op.code o' = cc in
        let h3 : value.code a ≡ value.code a' = cc in
        let h4 : value.code b ≡ value.code b' = cc in
        let k1 = class.inj c c' h1 in
        let k2 = op.inj o o' h2 in
        let k3 = value.inj a a' h3 in
        let k4 = value.inj b b' h4 in
        cc
    code_inj (Load t h a) (Load t' h' a') e =
        let h1 : how.code h ≡ how.code h' = cc in
        let h2 : value.code a ≡ value.code a' = cc in
        let k1 = how.inj h h' h1 in
        let k2 = value.inj a a' h2 in
        cc
    code_inj (Store w a b) (Store w' a' b') e =
        let h1 : value.code a ≡ value.code a' = cc in
        let h2 : value.code b ≡ value.code b' = cc in
        let k1 = value.inj a a' h1 in
        let k2 = value.inj b b' h2 in
        cc
    code_inj (Move a b n) (Move a' b' n') e =
        let h1 : value.code a ≡ value.code a' = cc in
        let h2 : value.code b ≡ value.code b' = cc in
        let k1 = value.inj a a' h1 in
        let k2 = value.inj b b' h2 in
        cc
    code_inj (If v a b) (If v' a' b') e =
        let h1 : value.code v ≡ value.code v' = cc in
        let h2 : code a ≡ code a' = cc in
        let h3 : code b ≡ code b' = cc in
        let k1 = value.inj v v' h1 in
        let k2 = code_inj a a' h2 in
        let k3 = code_inj b b' h3 in
        cc
    code_inj (Loop a) (Loop a') e = let h : code a ≡ code a' = cc in let x = code_inj a a' h in cc
    code_inj (Leave k) (Leave k') e = cc
    code_inj (Call t f vs) (Call t' f' vs') e =
        let h1 : temp_code.code t ≡ temp_code.code t' = cc in
        let h2 : name_code.code f ≡ name_code.code f' = cc in
        let h3 : values_code.code vs ≡ values_code.code vs' = cc in
        let k1 = temp_code.inj t t' h1 in
        let k2 = name_code.inj f f' h2 in
        let k3 = values_code.inj vs vs' h3 in
        cc
    code_inj (Ret v) (Ret v') e =
        let h : result_code.code v ≡ result_code.code v' = cc in
        let k = result_code.inj v v' h in
        cc
    code_inj _ _ e = cc

    pub codes_inj : (x y : Codes) → codes x ≡ codes y → x ≡ y
    codes_inj none none e = refl
    codes_inj none (more c cs) e = cc
    codes_inj (more c cs) none e = cc
    codes_inj (more c cs) (more c' cs') e =
        let h1 : code c ≡ code c' = cc in
        let h2 : codes cs ≡ codes cs' = cc in
        let k1 = code_inj c c' h1 in
        let k2 = codes_inj cs cs' h2 in
        cc

  abbrev pub code_code : Coded Code
  code_code = record { code = code; inj = code_inj }
