mod HasRows
