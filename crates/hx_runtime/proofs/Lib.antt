mod FunctionRows
